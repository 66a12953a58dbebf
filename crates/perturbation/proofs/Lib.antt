pub mod ApplyLaws
pub mod CoefLaws
pub mod EditLaws
pub mod LineLaws
pub mod ReplacedLaws
pub mod SideLaws
