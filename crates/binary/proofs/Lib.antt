pub mod BitLaws
pub mod MadeLaws
pub mod NumberLaws
pub mod RotationLaws
pub mod WordLaws
