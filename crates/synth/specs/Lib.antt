-- What the contracts of `synth` cite; RustFields, what the theorems on two runs do. `Inner` is not needed to read a
-- public promise.
pub mod Rise
pub mod Span
pub mod Baseband
pub mod Removal
pub mod RustFields
pub mod Inner
