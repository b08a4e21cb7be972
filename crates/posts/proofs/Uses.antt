-- What the tests over the places of a post tell. Assumes nothing.
use Rattle.std.proofs.Common.{◌≡◌, ℕ, ◌+◌, ◌-◌, ◌<◌, Bool, true, false, not, ◌&&◌, Decides, sym, refl, ap, ◌∙◌, ⊎_elim, arith}
use Rattle.std.proofs.lemmas.Bool.{cases_Bool, false≢true}
use Rattle.std.proofs.lemmas.Bool.Decides.{nat_tests}
use Rattle.words.specs.Below.{some}
use Rattle.words.proofs.Below.{every_decides, some_decides}
use Rattle.posts.specs.declared.place.Place.{Place}
use Rattle.posts.specs.declared.place.Place.TheVariants.{Empty, Waiting, Taken}
use Rattle.posts.specs.Places.{Places, Holds, Consistent, WaitsFrom, Used, vacant, waits, agrees, legal, within, consistent}
use Rattle.posts.specs.Tests.{some_waits, sent_to, sent}

module _ {W : Type 0} where
  waiting : (x : Place W) → waits x ≡ true → (w : W) × (x ≡ Waiting w)
  waiting Empty e = absurd (false≢true e)
  waiting (Waiting w) e = (w, refl)
  waiting (Taken w) e = absurd (false≢true e)

  held : (x : Place W) → not (vacant x) ≡ true → (w : W) × Holds x w
  held Empty e = absurd (false≢true e)
  held (Waiting w) e = (w, refl)
  held (Taken w) e = (w, refl)

  holding : (x : Place W) (w : W) → Holds x w → not (vacant x) ≡ true
  holding Empty w h = absurd h
  holding (Waiting v) w h = refl
  holding (Taken v) w h = refl

  -- the test of one place against a word
  module _ (alike : W → W → Bool) (exact : (x y : W) → Decides (alike x y) (x ≡ y)) (w : W) where
    agreeing : (x : Place W) (v : W) → agrees alike w x ≡ true → Holds x v → v ≡ w
    agreeing Empty v e h = absurd h
    agreeing (Waiting u) v e h = sym h ∙ (exact u w).0 e
    agreeing (Taken u) v e h = sym h ∙ (exact u w).0 e

    agreed : (x : Place W) → ((v : W) → Holds x v → v ≡ w) → agrees alike w x ≡ true
    agreed Empty all = refl
    agreed (Waiting u) all = (exact u w).1 (all u refl)
    agreed (Taken u) all = (exact u w).1 (all u refl)

  module _ (p : Places W) (n : ℕ) (outside : (s r k : ℕ) → (legal s r && within n k) ≡ false → p s r k ≡ Empty) where
    -- a place that is not empty is legal and within the reach
    inside : (s r k : ℕ) → not (vacant (p s r k)) ≡ true → (legal s r && within n k) ≡ true
    inside s r k e = ⊎_elim (λ h. h) (λ h. absurd (false≢true (sym (ap (λ x. not (vacant x)) (outside s r k h)) ∙ e))) (cases_Bool (legal s r && within n k))

    pub waits_decides : (s r : ℕ) → Decides (some_waits p n s r) (WaitsFrom p s r)
    waits_decides s r =
        let d = some_decides (λ j. waits (p s r (j + 1))) n in (
          λ e.
              let f = d.0 e in
              let x = waiting (p s r (f.0 + 1)) f.2 in
              (f.0 + 1, x.0, x.1),
          λ f.
              let k = f.0 in
              let here : p s r k ≡ Waiting f.1 = f.2 in
              let lawful = inside s r k (ap (λ x. not (vacant x)) here) in
              let low : k - 1 < n = grind (arith, nat_tests) in
              let back : k - 1 + 1 ≡ k = grind (arith, nat_tests) in
              d.1 (k - 1, low, ap (λ m. waits (p s r m)) back ∙ ap waits here),
        )

    pub used_decides : Decides (some 16 (sent p n)) (Used p)
    used_decides = (
      λ e.
          let f = (some_decides (sent p n) 16).0 e in
          let g = (some_decides (sent_to p n f.0) 16).0 f.2 in
          let h = (some_decides (λ j. not (vacant (p f.0 g.0 (j + 1)))) n).0 g.2 in
          let x = held (p f.0 g.0 (h.0 + 1)) h.2 in
          (f.0, g.0, h.0 + 1, x.0, x.1),
      λ u.
          let s = u.0 in
          let r = u.1 in
          let k = u.2 in
          let full = holding (p s r k) u.3 u.4 in
          let lawful = inside s r k full in
          let sender : s < 16 = grind (arith, nat_tests) in
          let receiver : r < 16 = grind (arith, nat_tests) in
          let low : k - 1 < n = grind (arith, nat_tests) in
          let back : k - 1 + 1 ≡ k = grind (arith, nat_tests) in
          let there = (some_decides (λ j. not (vacant (p s r (j + 1)))) n).1 (k - 1, low, ap (λ m. not (vacant (p s r m))) back ∙ full) in
          (some_decides (sent p n) 16).1 (s, sender, (some_decides (sent_to p n s) 16).1 (r, receiver, there)),
    )

    pub consistent_decides : (alike : W → W → Bool) → ((x y : W) → Decides (alike x y) (x ≡ y)) → (s k : ℕ) (w : W) → Decides (consistent alike p s k w) (Consistent p s k w)
    consistent_decides alike exact s k w =
        let d = every_decides (λ r. agrees alike w (p s r k)) 16 in (
          λ e r v h.
              let lawful = inside s r k (holding (p s r k) v h) in
              let receiver : r < 16 = grind (arith, nat_tests) in
              agreeing alike exact w (p s r k) v (d.0 e r receiver) h,
          λ all. d.1 (λ r _. agreed alike exact w (p s r k) (all r)),
        )
