-- Laws behind the proofs of `report`, by subject.

-- Room        of every input, the report fits into a lent buffer: `report_fits`; `answered_most`, `refusal_most`
-- Asks        the run's answer in the program: `refused_is`, `done_is`; the report by the second question:
--             `report_refused`, `report_answered`; of more bytes than a recording may have: `report_full`
pub mod Room
pub mod Asks
