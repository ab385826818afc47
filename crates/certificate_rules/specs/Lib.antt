pub mod Cubes
pub mod Certificate
pub mod Rules
pub mod Right
pub mod TrueTo
pub mod CertificateLaws
