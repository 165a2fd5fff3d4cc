-- Text that grows in a lent buffer, from the buffer's start. Definitions only.
use Rattle.std.specs.Prelude.{ℕ, ◌+◌, ◌≤◌, ◌≡◌, List, length}
use Rattle.std.specs.Borrow.{MutBor}
use Rattle.format.specs.declared.text.Text.{Text}
use Rattle.format.specs.Text.{Appended}

-- A buffer is lent, and nothing of it is filled.
pub record Begun (lent : MutBor (List ℕ)) (t : Text) : Type 0 where
  pub lent_buffer : t.out.ghost_name ≡ lent.ghost_name
  pub kept : t.out.now ≡ lent.now
  pub empty : t.filled ≡ 0

-- There is room for more text.
pub record HasRoom (t : Text) (text : List ℕ) : Type 0 where
  pub enough : t.filled + length text ≤ length t.out.now

-- Text goes in behind what is there, into the same buffer.
pub record Grown (before : Text) (text : List ℕ) (after : Text) : Type 0 where
  pub same_buffer : after.out.ghost_name ≡ before.out.ghost_name
  pub as_long : length after.out.now ≡ length before.out.now
  pub grown : Appended before.out.now before.filled text after.out.now after.filled
