-- Laws on questions that the proofs of every call cite, by subject.

-- Numbers     a refusal's number is not 0: `number_some`
-- FirstNo     the first no of a list of questions: where it is 0, each answer is yes: `yes_at`; where each is, it is 0:
--             `all_yes`; else it is a question's: `first_asked`
-- Given       question 7: the look at given records, `all_told`, `ok_over`, `ok_same`; what a yes says of them:
--             `all_timed`, `elements_fit`, `fit_sized`, `fits_fit`, `estimate_sized`
-- Accepted    what yes to questions 2, 3, 5 and 6 shows: `recording_is`, `element_places`, `fit_places`, `work_room`;
--             `work_is`
-- Calls       every call that asks first: the two ways out of its code, `refuses`, `accepts`, `hands_on`; what its
--             promise says, by its questions, its result and what it was lent: `accepted_by`, `refused_by`,
--             `refused_asked`, `never_refused`; of one that returns a number: `number_accepts`, `number_asked`
pub mod Numbers
pub mod FirstNo
pub mod Given
pub mod Accepted
pub mod Calls
