-- The rounds of a cube are a logarithm. Assumes nothing.
use Rattle.std.specs.Prelude.{◌≡◌, ℕ, ◌*◌, ◌^◌, ◌<◌, ◌≤◌, Bool, true, ◌&&◌, ◌||◌, not, ◌==◌, nat_le, nat_lt, refl}
use Rattle.std.proofs.Common.{arith}
use Rattle.std.proofs.lemmas.Bool.Decides.{nat_tests}
use Rattle.std.specs.Int.{is_power_of_two}
use Rattle.std.specs.Int.Count.{ones}
use Rattle.words.specs.Below.{every}
use Rattle.words.proofs.Below.{every_decides}
use Rattle.plans.specs.Cube.{cube_rounds, Logarithm}

-- whether h is the rounds of a cube of n offices, if it is the logarithm of n, a power of two
agrees : ℕ → ℕ → Bool
agrees n h = not (is_power_of_two n && (nat_le (2 ^ h) n && nat_lt n (2 * 2 ^ h))) || h == cube_rounds n

-- so it is for each number of offices up to 16
all_agree : every 17 (λ n. every 8 (agrees n)) ≡ true
unfolding agrees every ones
all_agree = refl

-- the logarithm of a power of two up to 16 is the rounds of a cube of so many offices
pub log_is_rounds : (n h : ℕ) → is_power_of_two n ≡ true → n ≤ 16 → h < 8 → 2 ^ h ≤ n → n < 2 * 2 ^ h → h ≡ cube_rounds n
unfolding agrees
log_is_rounds n h power size bound low high =
    let each = (every_decides (λ n. every 8 (agrees n)) 17).0 all_agree n (omega arith) in
    let here : agrees n h ≡ true = (every_decides (agrees n) 8).0 each h bound in
    grind (arith, nat_tests)

-- the rounds of a cube of n offices are the logarithm of n
pub rounds_are_log : (n h : ℕ) → h ≡ cube_rounds n → Logarithm n h
rounds_are_log n h is = record {
  small = grind (arith, nat_tests);
  power = λ some. grind (arith, nat_tests);
  one = λ e. grind (arith, nat_tests);
  two = λ e. grind (arith, nat_tests);
  three = λ e. grind (arith, nat_tests);
  four = λ e. grind (arith, nat_tests);
}
