-- What a write of one entry means, for every layout. Assumes nothing.
use Rattle.std.proofs.Common.{◌≡◌, ℕ, ◌-◌, ◌/◌, ◌%◌, ◌<◌, min, true, false, cond, ◌&&◌, eqb, ◌≢◌, List, length, get_or, set, replicate, sym, refl, ap, subst, ◌∙◌, ⊎_elim, inl, inr, div-mul-le_self, arith}
use lib.Arith.{digits_lt, digits_div, digits_mod}
use Rattle.std.proofs.lemmas.List.{length-set, length-replicate, get_or-set_same, get_or-set_other, get_or-replicate, get_or_past, get_or_default}
use Rattle.std.proofs.Math.Bool.{and-false}
use Rattle.std.proofs.lemmas.Bool.{cases_Bool, cases_eq, cases_lt, cond-true, cond-false}
use Rattle.std.proofs.lemmas.Bool.Decides.{nat_tests}
use Rattle.posts.specs.declared.place.Place.{Place}
use Rattle.posts.specs.declared.place.Place.TheVariants.{Empty, Waiting, Taken}
use Rattle.posts.specs.declared.address.Address.{Address}
use Rattle.posts.specs.declared.fault.PostFault.{PostFault}
use Rattle.posts.specs.Addresses.{Refused}
use Rattle.posts.specs.Layouts.{Layout, Placed, Sound, reach_of, index_of, place_index, places_of}
use Rattle.posts.specs.Places.{Consistent, Holds, legal, within, put, vacant, no_words}

-- what the tests of a place tell
hit_parts : (s r k s' r' k' : ℕ) → (eqb s' s && (eqb r' r && eqb k' k)) ≡ true → (s' ≡ s) × (r' ≡ r) × (k' ≡ k)
hit_parts s r k s' r' k' h = (grind (arith, nat_tests), grind (arith, nat_tests), grind (arith, nat_tests))

miss_other : (s r k s' r' k' : ℕ) → (eqb s' s && (eqb r' r && eqb k' k)) ≡ false → s' ≡ s → k' ≡ k → r' ≢ r
miss_other s r k s' r' k' h sender rounds = grind (arith, nat_tests)

lawful_parts : (s r n k : ℕ) → (legal s r && within n k) ≡ true → (legal s r ≡ true) × (0 < k)
lawful_parts s r n k h = (grind (arith, nat_tests), grind (arith, nat_tests))

lawful : (s r n k : ℕ) → legal s r ≡ true → within n k ≡ true → (legal s r && within n k) ≡ true
lawful s r n k pair round = grind (arith, nat_tests)

module _ {E W : Type 0} (layout : Layout E W) (placed : Placed layout) where
  -- two places with one entry have one sender, one round and one slot
  one_entry : (s r k s' r' k' : ℕ) → legal s r ≡ true → legal s' r' ≡ true → 0 < k → 0 < k' → place_index layout s r k ≡ place_index layout s' r' k' → (s ≡ s') × (k ≡ k') × (layout.slot s r ≡ layout.slot s' r')
  one_entry s r k s' r' k' pair pair' from from' same =
      let low = placed.fits s r pair in
      let low' = placed.fits s' r' pair' in
      let rounds : k - 1 ≡ k' - 1 = sym (digits_div (k - 1) low) ∙ ap (λ i. i / layout.size) same ∙ digits_div (k' - 1) low' in
      let slots : layout.slot s r ≡ layout.slot s' r' = sym (digits_mod (k - 1) low) ∙ ap (λ i. i % layout.size) same ∙ digits_mod (k' - 1) low' in
      (placed.sender s r s' r' pair pair' slots, omega arith, slots)

  module _ (memory : List E) (s r k : ℕ) (pair : legal s r ≡ true) (round : within (reach_of layout memory) k ≡ true) where
    pub within_memory : place_index layout s r k < length memory
    within_memory =
        let low = placed.fits s r pair in
        let q : k - 1 < length memory / layout.size = grind (arith, nat_tests) in
        omega (arith, digits_lt q low, div-mul-le_self (length memory) layout.size)

    pub says_at : places_of layout memory s r k ≡ layout.says (get_or memory (place_index layout s r k) layout.blank) r
    unfolding places_of
    says_at = cond-true (legal s r && within (reach_of layout memory) k) _ _ (grind (arith, nat_tests))

    module _ (e : E) (x : Place W) (mine : layout.says e r ≡ x)
        (others : (r' : ℕ) → legal s r' ≡ true → (r' ≡ r → ⊥) → layout.slot s r' ≡ layout.slot s r → layout.says e r' ≡ layout.says (get_or memory (place_index layout s r k) layout.blank) r') where
      pub reach_set : reach_of layout (set memory (place_index layout s r k) e) ≡ reach_of layout memory
      reach_set = ap (λ n. min 32 (n / layout.size)) (length-set memory (place_index layout s r k) e)

      set_at : (s' r' k' : ℕ) → places_of layout (set memory (place_index layout s r k) e) s' r' k' ≡ put (places_of layout memory) s r k x s' r' k'
      unfolding places_of
      set_at s' r' k' =
          let at = place_index layout s r k in
          let at' = place_index layout s' r' k' in
          let memory' = set memory at e in
          let b = legal s' r' && within (reach_of layout memory) k' in
          let hit = eqb s' s && (eqb r' r && eqb k' k) in
          let entry : List E → ℕ → E = λ m i. get_or m i layout.blank in
          let written : (i : ℕ) → i ≡ at → entry memory' i ≡ e = λ i same. ap (entry memory') same ∙ get_or-set_same memory at e layout.blank within_memory in
          ap (λ n. cond (legal s' r' && within n k') (layout.says (entry memory' at') r') Empty) reach_set ∙
          ⊎_elim
          (λ h.
          let parts = hit_parts s r k s' r' k' h in
          let sender : s' ≡ s = parts.0 in
          let receiver : r' ≡ r = parts.1 in
          let rounds : k' ≡ k = parts.2 in
          let moved : b ≡ (legal s r && within (reach_of layout memory) k) = cc in
          let same : at' ≡ at = cc in
          cond-true b _ _ (moved ∙ lawful s r (reach_of layout memory) k pair round) ∙ ap (λ y. layout.says y r') (written at' same) ∙ ap (layout.says e) receiver ∙ mine ∙ sym (cond-true hit _ _ h))
          (λ h. ⊎_elim
          (λ inside. ⊎_elim
          (λ same.
          let parts = lawful_parts s' r' (reach_of layout memory) k' inside in
          let from = (lawful_parts s r (reach_of layout memory) k (lawful s r (reach_of layout memory) k pair round)).1 in
          let one = one_entry s' r' k' s r k parts.0 pair parts.1 from same in
          let sender : s' ≡ s = one.0 in
          let other = miss_other s r k s' r' k' h sender one.1 in
          let pair'' : legal s r' ≡ true = ap (λ z. legal z r') (sym sender) ∙ parts.0 in
          let kept = others r' pair'' other (ap (λ z. layout.slot z r') (sym sender) ∙ one.2) in
          ap (λ y. cond b y Empty) (ap (λ y. layout.says y r') (written at' same) ∙ kept ∙ ap (λ i. layout.says (entry memory i) r') (sym same)) ∙ sym (cond-false hit _ _ h))
          (λ apart. ap (λ y. cond b (layout.says y r') Empty) (get_or-set_other memory at at' e layout.blank apart) ∙ sym (cond-false hit _ _ h))
          (cases_eq at' at))
          (λ past. cond-false b _ _ past ∙ sym (cond-false hit _ _ h ∙ cond-false b _ _ past))
          (cases_Bool b))
          (cases_Bool hit)

      -- one entry written is one place changed
      pub places_set : places_of layout (set memory (place_index layout s r k) e) ≡ put (places_of layout memory) s r k x
      places_set i s' r' k' = set_at s' r' k' i

  -- the place at an address, as it is read from the entry of the same address once it was asked for
  pub place_read : (memory : List E) (at b : Address) (far reach i : ℕ) (e : E) (x : Place W) → b ≡ at → far ≡ reach → reach ≡ reach_of layout memory → legal b.sender b.receiver ≡ true → within far b.round ≡ true → i ≡ place_index layout b.sender b.receiver b.round → e ≡ get_or memory i e → x ≡ layout.says e at.receiver → x ≡ places_of layout memory at.sender at.receiver at.round
  place_read memory at b far reach i e x same asked is pair round place read says =
      let round' = ap (λ n. within n b.round) (sym (asked ∙ is)) ∙ round in
      let there = place_index layout b.sender b.receiver b.round in
      let found : e ≡ get_or memory there layout.blank = read ∙ ap (λ j. get_or memory j e) place ∙ get_or_default memory there e layout.blank (within_memory memory b.sender b.receiver b.round pair round') in
      says ∙ ap (λ a. layout.says e a.receiver) (sym same) ∙ ap (λ y. layout.says y b.receiver) found ∙ sym (says_at memory b.sender b.receiver b.round pair round') ∙ ap (λ a. places_of layout memory a.sender a.receiver a.round) same

  -- a memory of blank entries
  pub cleared : (memory memory' : List E) → memory' ≡ replicate (length memory) layout.blank → (reach_of layout memory' ≡ reach_of layout memory) × (places_of layout memory' ≡ no_words)
  unfolding places_of
  cleared memory memory' is = (ap (λ n. min 32 (n / layout.size)) (ap length is ∙ length-replicate n layout.blank), λ i s r k. none s r k i)
    where
      n : ℕ
      n = length memory

      blanks : (j : ℕ) → get_or (replicate n layout.blank) j layout.blank ≡ layout.blank
      blanks j = ⊎_elim (λ h. get_or-replicate n j layout.blank layout.blank h) (λ h. get_or_past (replicate n layout.blank) j layout.blank (rw length-replicate h)) (cases_lt j n)

      none : (s r k : ℕ) → places_of layout memory' s r k ≡ Empty
      none s r k =
          let b = legal s r && within (reach_of layout memory') k in
          ap (λ y. cond b y Empty) (ap (λ y. layout.says y r) (ap (λ m. get_or m (place_index layout s r k) layout.blank) is ∙ blanks (place_index layout s r k)) ∙ placed.silent r) ∙
          ⊎_elim (λ t. cond-true b Empty Empty t) (λ t. cond-false b Empty Empty t) (cases_Bool b)

-- the entry of a place is read, and written with the word posted or taken
module _ {E W : Type 0} (layout : Layout E W) (sound : Sound layout) (memory : List E) (s r k : ℕ) (pair : legal s r ≡ true) (round : within (reach_of layout memory) k ≡ true) where
  abbrev entry : E
  entry = get_or memory (place_index layout s r k) layout.blank

  low : r < 16
  low = grind (arith, nat_tests)

  -- what the entry says of the receivers that share it
  said : (r' : ℕ) → legal s r' ≡ true → layout.slot s r' ≡ layout.slot s r → places_of layout memory s r' k ≡ layout.says entry r'
  said r' pair' slots = says_at layout sound.placed memory s r' k pair' round ∙ ap (λ z. layout.says (get_or memory (index_of layout.size z k) layout.blank) r') slots

  written : (e : E) (x : Place W) → layout.says e r ≡ x → ((r' : ℕ) → legal s r' ≡ true → (r' ≡ r → ⊥) → layout.slot s r' ≡ layout.slot s r → layout.says e r' ≡ layout.says entry r') → (new : E) → new ≡ e → places_of layout (set memory (place_index layout s r k) new) ≡ put (places_of layout memory) s r k x
  written e x mine others new made = ap (λ y. places_of layout (set memory (place_index layout s r k) y)) made ∙ places_set layout sound.placed memory s r k pair round e x mine others

  pub stored_posted : (w : W) → Consistent (places_of layout memory) s k w → vacant (places_of layout memory s r k) ≡ true → (new : E) → new ≡ layout.posted entry r w → places_of layout (set memory (place_index layout s r k) new) ≡ put (places_of layout memory) s r k (Waiting w)
  stored_posted w agree free =
      written (layout.posted entry r w) (Waiting w) (sound.waits entry r w low (sym (ap vacant (said r pair refl)) ∙ free))
      (λ r' pair' other slots. sound.posts s r r' pair pair' other slots entry w (λ v h. agree r' v (subst (λ x. Holds x v) (sym (said r' pair' slots)) h)))

  pub stored_taken : (w : W) → places_of layout memory s r k ≡ Waiting w → (new : E) → new ≡ layout.taken entry r w → places_of layout (set memory (place_index layout s r k) new) ≡ put (places_of layout memory) s r k (Taken w)
  stored_taken w here =
      written (layout.taken entry r w) (Taken w) (sound.marked entry r w low (sym (said r pair refl) ∙ here))
      (λ r' pair' other slots. sound.takes s r r' pair pair' other slots entry w)

-- an address that is refused lies outside
pub refused_outside : (s r k reach n : ℕ) (e : PostFault) → reach ≡ n → Refused s r k reach e → (legal s r && within n k) ≡ false
refused_outside s r k reach n e is h =
    elim h [
      | inl p ↦ ap (λ b. b && within n k) p.0
      | inr p ↦ ap (λ b. legal s r && b) (ap (λ m. within m k) (sym is) ∙ p.1) ∙ and-false (legal s r)
    ]
