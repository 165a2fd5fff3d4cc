-- PI, TAU, LN_2 and LN_10 of Rust: the f64 nearest to the digits that std::f64::consts has. Definitions only.
use Rattle.std.specs.Prelude.{◌^◌, Float}
use Rattle.float.specs.Ops.{fraction}

unfoldable pub PI : Float
unfolding fraction
PI = fraction 314159265358979323846264338327950288 (10 ^ 35)

unfoldable pub TAU : Float
unfolding fraction
TAU = fraction 628318530717958647692528676655900577 (10 ^ 35)

unfoldable pub LN_2 : Float
unfolding fraction
LN_2 = fraction 693147180559945309417232121458176568 (10 ^ 36)

unfoldable pub LN_10 : Float
unfolding fraction
LN_10 = fraction 230258509299404568401799145468436421 (10 ^ 35)
