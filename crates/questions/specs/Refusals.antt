-- The numbers of refusals, by name: 01's questions, then those that document 02 adds. Definitions only.
use Rattle.std.specs.Prelude.{ℕ, ⊤, Result, Ok, Err}
use Rattle.questions.specs.declared.refusals.Refusal.{Refusal}
use Rattle.questions.specs.declared.refusals.Refusal.TheVariants.{Rate, Count, Sample, Carrier, Places, Work, Given, Valley, Peak, Hints, Answers, Records, Evidence, Tray, Reference, Unit, Order, Text, Positions}

-- fs is no number from 2,000 to 192,000
abbrev pub REFUSED_RATE : ℕ
REFUSED_RATE = 1

-- the f32 count is odd or above 2,097,152
abbrev pub REFUSED_COUNT : ℕ
REFUSED_COUNT = 2

-- a sample is not finite
abbrev pub REFUSED_SAMPLE : ℕ
REFUSED_SAMPLE = 3

-- the hint or the carrier is not finite, or of size above fs/2
abbrev pub REFUSED_CARRIER : ℕ
REFUSED_CARRIER = 4

-- a list to be filled has too few places
abbrev pub REFUSED_PLACES : ℕ
REFUSED_PLACES = 5

-- the work slice is too short
abbrev pub REFUSED_WORK : ℕ
REFUSED_WORK = 6

-- a given count does not fit its list, or a given number is not accepted
abbrev pub REFUSED_GIVEN : ℕ
REFUSED_GIVEN = 7

-- ---- document 02, each asked from the landing of its call on

-- a key unit of 0, or an amplitude or the sum of both not finite
abbrev pub REFUSED_VALLEY : ℕ
REFUSED_VALLEY = 8

-- a power or frame slice too short
abbrev pub REFUSED_PEAK : ℕ
REFUSED_PEAK = 9

-- no hint or more than 8
abbrev pub REFUSED_HINTS : ℕ
REFUSED_HINTS = 10

-- an answer list with fewer places than hints
abbrev pub REFUSED_ANSWERS : ℕ
REFUSED_ANSWERS = 11

-- no evidence record or more than 64
abbrev pub REFUSED_RECORDS : ℕ
REFUSED_RECORDS = 12

-- a record whose hot count exceeds its gap blocks, or with too many of these
abbrev pub REFUSED_EVIDENCE : ℕ
REFUSED_EVIDENCE = 13

-- an answer list shorter than the records
abbrev pub REFUSED_TRAY : ℕ
REFUSED_TRAY = 14

-- a reference not finite or not positive
abbrev pub REFUSED_REFERENCE : ℕ
REFUSED_REFERENCE = 15

-- a dot length outside its range
abbrev pub REFUSED_UNIT : ℕ
REFUSED_UNIT = 16

-- an up not before its down, or a down after the next up
abbrev pub REFUSED_ORDER : ℕ
REFUSED_ORDER = 17

-- a text slice too short
abbrev pub REFUSED_TEXT : ℕ
REFUSED_TEXT = 18

-- a list whose positions are out of order
abbrev pub REFUSED_POSITIONS : ℕ
REFUSED_POSITIONS = 19

-- ---- a refusal's number, and that of an answer with nothing in it: 0 where it is no refusal
abbrev pub number_of : Refusal → ℕ
number_of Rate = REFUSED_RATE
number_of Count = REFUSED_COUNT
number_of Sample = REFUSED_SAMPLE
number_of Carrier = REFUSED_CARRIER
number_of Places = REFUSED_PLACES
number_of Work = REFUSED_WORK
number_of Given = REFUSED_GIVEN
number_of Valley = REFUSED_VALLEY
number_of Peak = REFUSED_PEAK
number_of Hints = REFUSED_HINTS
number_of Answers = REFUSED_ANSWERS
number_of Records = REFUSED_RECORDS
number_of Evidence = REFUSED_EVIDENCE
number_of Tray = REFUSED_TRAY
number_of Reference = REFUSED_REFERENCE
number_of Unit = REFUSED_UNIT
number_of Order = REFUSED_ORDER
number_of Text = REFUSED_TEXT
number_of Positions = REFUSED_POSITIONS

abbrev pub no_of : Result ⊤ Refusal → ℕ
no_of (Ok u) = 0
no_of (Err r) = number_of r
