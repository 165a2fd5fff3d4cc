-- `float::single::narrow_bits` meets its contract: each range of `a` is a lemma of `proofs/Narrowing.antt`. Assumes
-- nothing.
use Rattle.std.proofs.Common.{◌≡◌, ℕ, ◌+◌, ◌-◌, ◌*◌, ◌/◌, ◌%◌, ◌^◌, sym, subst, arith}
use Rattle.std.proofs.lemmas.Nat.{one_shl}
use Rattle.float.specs.Inner.{Narrowed}
use Rattle.float.proofs.Narrowing.{normal, over, sub, tiny}
use Rattle.float.proofs.single.narrow_bits.Goals as goal

-- the `k` of the source
abbrev k : goal.Then-a-ge3927138875067072512 → ℕ
k c = 925 - c.args.a / 0x10_0000_0000_0000

-- `1 << k` loses nothing
h-is : (c : goal.Then-a-ge3927138875067072512) → 1 * 2 ^ k c % 2 ^ 64 ≡ 2 ^ k c
h-is c = one_shl (k c) 64 (omega arith)

pub returns-then-a-ge5183643171103440896 : goal.returns-then-a-ge5183643171103440896
returns-then-a-ge5183643171103440896 c = over c.args.a c.if-a-ge5183643171103440896.true c.requires

pub returns-then-a-ge4039728865751334912 : goal.returns-then-a-ge4039728865751334912
returns-then-a-ge4039728865751334912 c = normal c.args.a c.if-a-ge4039728865751334912.true c.if-a-ge5183643171103440896.false

pub returns-then-a-ge3927138875067072512 : goal.returns-then-a-ge3927138875067072512
returns-then-a-ge3927138875067072512 c =
    let a = c.args.a in
    let d = a % 0x10_0000_0000_0000 + 0x10_0000_0000_0000 in
    subst (λ (h : ℕ). Narrowed a ((d + (h - 1) + d / 2 ^ (k c + 1) % 2) / 2 ^ (k c + 1))) (sym (h-is c)) (sub a c.if-a-ge3927138875067072512.true c.if-a-ge4039728865751334912.false)

pub returns-else-a-ge3927138875067072512 : goal.returns-else-a-ge3927138875067072512
returns-else-a-ge3927138875067072512 c = tiny c.args.a c.if-a-ge3927138875067072512.false
