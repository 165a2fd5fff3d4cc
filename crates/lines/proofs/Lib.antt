-- Laws behind the proofs of `lines`, by subject.

-- Keys        the key lines of the elements that a list holds: `keys_none`, `keys_turn`, `keys_room`
-- Lengths     how long the parts of a report are: `count_length`, `run_length`
pub mod Keys
pub mod Lengths
