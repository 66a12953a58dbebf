pub mod FaultLaws
pub mod LineLaws
pub mod MoveLaws
pub mod SideLaws
pub mod SignLaws
