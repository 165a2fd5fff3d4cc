-- Laws behind the proofs of `replay`.

-- Repeated    one number again and again is as long as that: `repeated`
pub mod Repeated
