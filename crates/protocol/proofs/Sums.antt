-- Laws of tests and counts below a number, and of the sums of words. Assumes nothing.
use Rattle.std.proofs.Common.{◌≡◌, ℕ, zero, suc, ◌<◌, ◌≤◌, Bool, true, false, ◌&&◌, ◌||◌, eqb, ltb, ◌≢◌, ◌⊎◌, Some, None, Option, sym, refl, ap, ◌∙◌, inl, inr, arith}
use lib.Bits.{or_comm, or_self}
use Rattle.std.proofs.lemmas.Bool.{both_ways, cases_eq, cases_Bool, cond_both, or_cases}
use Rattle.std.proofs.Math.Bool as bools
use Rattle.words.specs.declared.knowledge.Knowledge.{Knowledge}
use Rattle.words.specs.declared.offices.Offices.{Offices}
use Rattle.words.specs.declared.term.TermWord.{TermWord}
use Rattle.words.specs.Below.{every, some}
use Rattle.words.specs.Knowledge.{knows_nothing, pooled}
use Rattle.words.specs.Offices.{member, none, union, full}
use Rattle.words.specs.Sum.{sum_of}
use Rattle.words.specs.Terms.{higher}
use Rattle.words.proofs.Below.{every_decides, some_decides, some_suc}
use Rattle.words.specs.MasksLemmas.{or_assoc, bit-bit_or, bit-none, some-bit}
use Rattle.words.proofs.Sums.{sum_append}
use Rattle.words.proofs.Members.{member-none, member-added}
use Rattle.protocol.specs.Hearing.{Heard, listed, words, total}
use Rattle.protocol.specs.History.{count}
use Rattle.protocol.specs.Letters.{N, C, A}
use Rattle.protocol.specs.Rules.{readied, learns}

pub every_at : (n : ℕ) (p : ℕ → Bool) → every n p ≡ true → (l : ℕ) → l < n → p l ≡ true
every_at n p = (every_decides p n).0

pub all_below : (n : ℕ) (p : ℕ → Bool) → ((l : ℕ) → l < n → p l ≡ true) → every n p ≡ true
all_below n p = (every_decides p n).1

-- a test of the numbers below n finds one that fails, or none fails
find_not : (n : ℕ) (p : ℕ → Bool) → ((l : ℕ) × (l < n) × (p l ≡ false)) ⊎ ((l : ℕ) → l < n → p l ≡ true)
find_not zero p = inr (λ l lt. absurd (omega arith))
find_not (suc n) p = elim (find_not n p) [
  | inl (l, lt, e) ↦ inl (l, omega arith, e)
  | inr all ↦ elim (cases_Bool (p n)) [
    | inl e ↦ inr (λ l lt. elim (cases_eq l n) [ inl q ↦ rw q e | inr ne ↦ all l (omega arith) ])
    | inr e ↦ inl (n, omega arith, e)
  ]
]

pub every_not : (n : ℕ) (p : ℕ → Bool) → every n p ≡ false → (l : ℕ) × (l < n) × (p l ≡ false)
every_not n p h = elim (find_not n p) [ inl x ↦ x | inr all ↦ absurd (both_ways _ h (all_below n p all)) ]

pub some_at : (n : ℕ) (p : ℕ → Bool) → some n p ≡ true → (l : ℕ) × (l < n) × (p l ≡ true)
some_at n p = (some_decides p n).0

pub some-from : (n : ℕ) (p : ℕ → Bool) (l : ℕ) → l < n → p l ≡ true → some n p ≡ true
some-from n p l lt e = (some_decides p n).1 (l, lt, e)

pub count_le : (n : ℕ) (p q : ℕ → Bool) → ((l : ℕ) → l < n → p l ≡ true → q l ≡ true) → count n p ≤ count n q
unfolding count
count_le zero p q h = omega arith
count_le (suc n) p q h = let a = h n (omega arith) in let b = count_le n p q (λ l lt. h l (omega arith)) in grind arith

pub count_lt : (n : ℕ) (p q : ℕ → Bool) → ((l : ℕ) → l < n → p l ≡ true → q l ≡ true) → (z : ℕ) → z < n → p z ≡ false → q z ≡ true → count n p < count n q
unfolding count
count_lt zero p q h z lt f t = omega arith
count_lt (suc n) p q h z lt f t = elim (cases_eq z n) [
  | inl e ↦ let b = count_le n p q (λ l lt. h l (omega arith)) in let f' : p n ≡ false = rw e at f in let t' : q n ≡ true = rw e at t in grind arith
  | inr ne ↦ let a = h n (omega arith) in let b = count_lt n p q (λ l lt. h l (omega arith)) z (omega arith) f t in grind arith
]

pub count_pos : (n : ℕ) (p : ℕ → Bool) (z : ℕ) → z < n → p z ≡ true → 1 ≤ count n p
count_pos n p z lt t = let a = count_lt n (λ _. false) p (λ l _ e. grind arith) z lt refl t in omega arith

pub count_all : (n : ℕ) (p : ℕ → Bool) → count n p ≤ n
unfolding count
count_all zero p = omega arith
count_all (suc n) p = let ih = count_all n p in grind arith

-- Sets of offices.
pub full_at : (n : ℕ) (s : Offices) → full n s ≡ true → (l : ℕ) → l < n → member s l ≡ true
full_at n s e = every_at n (member s) e

pub full_from : (n : ℕ) (s : Offices) → ((l : ℕ) → l < n → member s l ≡ true) → full n s ≡ true
full_from n s = all_below n (member s)

pub member_union : (a b : Offices) (i : ℕ) → member (union a b) i ≡ (member a i || member b i)
member_union a b i = bit-bit_or a.mask b.mask i

pub some-member : (s : Offices) → s.mask ≢ 0 → (i : ℕ) × (member s i ≡ true)
some-member s ne = some-bit s.mask ne

-- a set with no bits has no member
pub no_member : (s : Offices) (i : ℕ) → s.mask ≡ 0 → member s i ≡ true → ⊥
no_member s i z e = let n = bit-none i in grind arith

-- who is in one of two sets of which the other has no bits is in the one
pub in_one : (s : Offices) (x : ℕ) → s.mask ≡ 0 → (b : Bool) → (b || member s x) ≡ true → b ≡ true
in_one s x e b h = elim (or_cases b (member s x) h) [ inl y ↦ y | inr m ↦ absurd (no_member s x e m) ]

-- Termination words.
pub join_N : (a b : TermWord) → higher a b ≡ N → (a ≡ N) × (b ≡ N)
join_N a b h = grind arith

pub join_C : (a b : TermWord) → a ≢ C → b ≢ C → higher a b ≢ C
join_C a b p q = grind arith

pub join_one : (w : TermWord) → w ≢ N → (a b : TermWord) → higher a b ≡ w → (a ≡ w) ⊎ (b ≡ w)
join_one w ne a b h = grind arith

pub join_A : (a b : TermWord) → (a ≡ A) ⊎ (b ≡ A) → higher a b ≡ A
join_A a b e = grind arith

pub C≢N : C ≢ N
C≢N e = grind arith

pub A≢N : A ≢ N
A≢N e = grind arith

-- the word, or the empty word where none was heard
abbrev pub word_or : {W : Type 0} → W → Option W → W
word_or d None = d
word_or d (Some w) = w

-- one office more in the sum of what was heard
module _ {W : Type 0} (nil : W) (join : W → W → W)
    (assoc : (x y z : W) → join (join x y) z ≡ join x (join y z)) (comm : (x y : W) → join x y ≡ join y x) (idem : (x : W) → join x x ≡ x) (unit : (x : W) → join nil x ≡ x) where
  sum_listed : (x : Option W) → sum_of nil join (listed x) ≡ word_or nil x
  sum_listed None = refl
  sum_listed (Some w) = comm w nil ∙ unit w

  pub sum_next : (n : ℕ) (q : Heard W) → sum_of nil join (words (suc n) q) ≡ join (sum_of nil join (words n q)) (word_or nil (q n))
  unfolding words
  sum_next n q = sum_append nil join assoc comm idem unit (words n q) (listed (q n)) ∙ ap (join (sum_of nil join (words n q))) (sum_listed (q n))

-- the sum of the termination words that were heard
abbrev pub sum_term : ℕ → Heard TermWord → TermWord
sum_term n q = sum_of N higher (words n q)

next_term : (n : ℕ) (q : Heard TermWord) → sum_term (suc n) q ≡ higher (sum_term n q) (word_or N (q n))
next_term = sum_next N higher (λ x y z. grind arith) (λ x y. grind arith) (λ x. grind arith) (λ x. grind arith)

pub sum_N : (n : ℕ) (q : Heard TermWord) → sum_term n q ≡ N → (l : ℕ) → l < n → word_or N (q l) ≡ N
sum_N zero q h l lt = grind arith
sum_N (suc n) q h l lt =
    let (a, b) = join_N _ _ (sym (next_term n q) ∙ h) in
    elim (cases_eq l n) [ inl e ↦ rw e b | inr ne ↦ sum_N n q a l (omega arith) ]

pub sum_C : (n : ℕ) (q : Heard TermWord) → ((l : ℕ) → l < n → word_or N (q l) ≢ C) → sum_term n q ≢ C
unfolding words
sum_C zero q h = grind arith
sum_C (suc n) q h = rw (next_term n q) (join_C (sum_term n q) (word_or N (q n)) (sum_C n q (λ l lt. h l (omega arith))) (h n (omega arith)))

pub sum_A : (n : ℕ) (q : Heard TermWord) (l : ℕ) → l < n → word_or N (q l) ≡ A → sum_term n q ≡ A
sum_A zero q l lt e = grind arith
sum_A (suc n) q l lt e = next_term n q ∙ join_A _ _ (elim (cases_eq l n) [ inl s ↦ inr (rw s at e) | inr ne ↦ inl (sum_A n q l (omega arith) e) ])

pub sum_at : (w : TermWord) → w ≢ N → (n : ℕ) (q : Heard TermWord) → sum_term n q ≡ w → (l : ℕ) × (l < n) × (word_or N (q l) ≡ w)
unfolding words
sum_at w nn zero q h = absurd (nn (sym h))
sum_at w nn (suc n) q h = elim (join_one w nn _ _ (sym (next_term n q) ∙ h)) [
  | inl e ↦ let (l, lt, x) = sum_at w nn n q e in (l, omega arith, x)
  | inr e ↦ (n, omega arith, e)
]

-- the sum of a closing office's words
abbrev pub total_term : ℕ → TermWord → Heard TermWord → TermWord
total_term = total N higher

pub total_is : (n : ℕ) (own : TermWord) (q : Heard TermWord) → total_term n own q ≡ higher own (sum_term n q)
unfolding total
total_is n own q = refl

-- the sum of the knowledge that was heard
abbrev sum_knowledge : ℕ → Heard Knowledge → Knowledge
sum_knowledge n q = sum_of knows_nothing pooled (words n q)

next_knowledge : (n : ℕ) (q : Heard Knowledge) → sum_knowledge (suc n) q ≡ pooled (sum_knowledge n q) (word_or knows_nothing (q n))
next_knowledge = sum_next knows_nothing pooled (λ x y z. simp or_assoc) (λ x y. cc (or_comm x.yes.mask y.yes.mask, or_comm x.no.mask y.no.mask, or_comm x.ready.mask y.ready.mask)) (λ x. simp or_self) (λ x. refl)

-- what was heard from an office, nothing where nothing was heard
abbrev pub told_by : Heard Knowledge → ℕ → Knowledge
told_by q l = word_or knows_nothing (q l)

-- one of the three sets, f, of the sum
sum_set : (f : Knowledge → Offices) → f knows_nothing ≡ none → ((a b : Knowledge) → f (pooled a b) ≡ union (f a) (f b)) → (n : ℕ) (q : Heard Knowledge) (j : ℕ) → member (f (sum_knowledge n q)) j ≡ some n (λ l. member (f (told_by q l)) j)
unfolding words some
sum_set f z u zero q j = ap (λ (s : Offices). member s j) z ∙ member-none j
sum_set f z u (suc n) q j =
    ap (λ k. member (f k) j) (next_knowledge n q) ∙ ap (λ (s : Offices). member s j) (u (sum_knowledge n q) (told_by q n)) ∙ member_union (f (sum_knowledge n q)) (f (told_by q n)) j
    ∙ ap (λ b. b || member (f (told_by q n)) j) (sum_set f z u n q j) ∙ bools.or_comm (some n (λ l. member (f (told_by q l)) j)) _ ∙ sym (some_suc (λ l. member (f (told_by q l)) j) n)

module _ (n i : ℕ) (own : Knowledge) (q : Heard Knowledge) (j : ℕ) where
  -- one of the two sets, f, that no readying changes
  closed_set : (f : Knowledge → Offices) → f knows_nothing ≡ none → ((a b : Knowledge) → f (pooled a b) ≡ union (f a) (f b)) → ((k : Knowledge) → f (readied n i k) ≡ f k) → member (f (learns n i own q)) j ≡ (member (f own) j || some n (λ l. member (f (told_by q l)) j))
  unfolding total
  closed_set f z u kept = ap (λ (s : Offices). member s j) (kept (total knows_nothing pooled n own q) ∙ u own (sum_knowledge n q)) ∙ member_union (f own) (f (sum_knowledge n q)) j ∙ ap (λ b. member (f own) j || b) (sum_set f z u n q j)

  pub closed-yes : member (learns n i own q).yes j ≡ (member own.yes j || some n (λ l. member (told_by q l).yes j))
  unfolding readied
  closed-yes = closed_set (λ k. k.yes) refl (λ a b. refl) (λ k. cond_both (full n k.yes) _ _ (λ (x : Knowledge). x.yes ≡ k.yes) (λ _. refl) (λ _. refl))

  pub closed-no : member (learns n i own q).no j ≡ (member own.no j || some n (λ l. member (told_by q l).no j))
  unfolding readied
  closed-no = closed_set (λ k. k.no) refl (λ a b. refl) (λ k. cond_both (full n k.yes) _ _ (λ (x : Knowledge). x.no ≡ k.no) (λ _. refl) (λ _. refl))

  pub closed-ready : member (learns n i own q).ready j ≡ ((member own.ready j || some n (λ l. member (told_by q l).ready j)) || (full n (learns n i own q).yes && (eqb j i && ltb i 16)))
  unfolding readied total
  closed-ready =
      let a = member_union own.ready (sum_knowledge n q).ready j in
      let b = sum_set (λ k. k.ready) refl (λ a b. refl) n q j in
      let c = member-added (total knows_nothing pooled n own q).ready i j in
      grind arith
