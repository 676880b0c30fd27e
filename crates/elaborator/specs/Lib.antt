pub mod PreparedTexts
pub mod TextHeads
pub mod TextsUnder
pub mod TextSteps
