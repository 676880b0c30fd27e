pub mod KindsLaws
