-- What the contract of `cancel::run` cites; those of the calls that are handed on stand in `strong` and `given`.
pub mod Running
