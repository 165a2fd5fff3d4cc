-- The interface's version (include/cancel.h). Definitions only.
use Rattle.std.specs.Prelude.{ℕ, ◌+◌, ◌*◌}

-- CANCEL_VERSION_MAJOR and CANCEL_VERSION_MINOR, to which oracle/tests/header.rs holds these
abbrev pub MAJOR : ℕ
MAJOR = 1

abbrev pub MINOR : ℕ
MINOR = 2

-- the two in one number: CANCEL_VERSION
abbrev pub version : ℕ
version = MAJOR * 1000 + MINOR
