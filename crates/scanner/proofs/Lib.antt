pub mod StoreLaws
pub mod MadeLaws
pub mod ScanLoop
pub mod ScanningLaws
pub mod RoomLaws
pub mod AfterScan
pub mod NumberLaws
pub mod DollarLaws
