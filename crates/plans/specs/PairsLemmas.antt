-- The test of a proper pair is exact. Assumes nothing.
use Rattle.std.specs.Prelude.{◌≡◌, ℕ, true, Decides}
use Rattle.std.proofs.Common.{arith}
use Rattle.std.proofs.lemmas.Bool.Decides.{nat_tests}
use Rattle.plans.specs.Pairs.{Proper, proper}

-- the test of a proper pair passes where the pair is proper, and only there
pub proper_decides : (n h r s l : ℕ) → Decides (proper n h r s l) (Proper n h r s l)
proper_decides n h r s l = (passed, λ p. let apart = p.apart in grind (arith, nat_tests))
  where
    passed : proper n h r s l ≡ true → Proper n h r s l
    passed e = record {
      from = grind (arith, nat_tests);
      to = grind (arith, nat_tests);
      speaker = grind (arith, nat_tests);
      listener = grind (arith, nat_tests);
      apart = λ q. grind (arith, nat_tests);
    }
