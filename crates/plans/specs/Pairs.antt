-- The pairs of offices that a plan may name in a round. Assumes nothing.
use Rattle.std.specs.Prelude.{◌≡◌, ℕ, ◌<◌, ◌≤◌, not, ◌&&◌, ◌==◌, nat_le, nat_lt}
use Rattle.plans.specs.Covering.{Talk}

-- round r is one of h rounds, and speaker s and listener l are two of n offices
pub record Proper (n h r s l : ℕ) : Type 0 where
  pub from : 1 ≤ r
  pub to : r ≤ h
  pub speaker : s < n
  pub listener : l < n
  pub apart : s ≡ l → ⊥

-- the same, as a test
abbrev pub proper : ℕ → ℕ → Talk
proper n h r s l = nat_le 1 r && (nat_le r h && (nat_lt s n && (nat_lt l n && not (s == l))))
