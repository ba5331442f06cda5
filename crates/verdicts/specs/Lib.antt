pub mod Searches
pub mod Taking
pub mod Misfits
pub mod Refusals
pub mod Verdicts
pub mod Entitlements
