-- What the rules say by name.
pub mod Constants
