pub mod Limits
pub mod Fields
pub mod Answer
pub mod Analyse
pub mod Laws
pub mod CForm
