-- What the rules of the termination say of the sum of the words. Assumes nothing.
use Rattle.std.proofs.Common.{◌≡◌, ℕ, ◌<◌, ◌≤◌, Bool, true, false, cond, ◌&&◌, leb, ◌≢◌, ◌⊎◌, Option, sym, ◌∙◌, inl, inr, arith}
use mathlib.Core.Bool.{beq}
use Rattle.std.proofs.lemmas.Bool.{both_ways, cases_Bool, or_cases, or_left, or_right, and_parts, and_from}
use Rattle.std.proofs.lemmas.Bool.Decides.{nat_tests}
use Rattle.words.specs.declared.term.TermWord.{TermWord}
use Rattle.words.specs.Below.{every, some}
use Rattle.words.specs.Terms.{higher, same_term}
use Rattle.protocol.specs.Hearing.{Heard, spoke}
use Rattle.protocol.specs.Letters.{N, C, A}
use Rattle.protocol.specs.Rules.{only, all_are, says_A, rule_1, rule_2, rule_3, same_offices, next_word}
use Rattle.protocol.proofs.Sums.{every_at, all_below, every_not, some_at, some-from, word_or, sum_term, join_N, join_one, join_A, C≢N, A≢N, sum_N, sum_A, sum_at, total_term, total_is}

pub three : (w : TermWord) → (w ≡ N) ⊎ ((w ≡ C) ⊎ (w ≡ A))
three w = grind arith

same_is : (a b : TermWord) → same_term a b ≡ true → a ≡ b
same_is a b e = grind (arith, nat_tests)

same_from : (a b : TermWord) → a ≡ b → same_term a b ≡ true
same_from a b e = grind (arith, nat_tests)

says_is : (o : Option TermWord) → says_A o ≡ true → word_or N o ≡ A
says_is o e = grind arith

says-from : (o : Option TermWord) → word_or N o ≡ A → says_A o ≡ true
says-from o e = grind arith

pub not_both : {w : TermWord} → w ≡ C → w ≡ N → ⊥
not_both p q = C≢N (sym p ∙ q)

module _ (n : ℕ) (own : TermWord) (q : Heard TermWord) where
  -- rule 1 fits exactly where the sum is A
  pub A_sum : rule_1 n own q ≡ true → total_term n own q ≡ A
  unfolding rule_1
  A_sum e = total_is n own q ∙ join_A own (sum_term n q) (elim (or_cases (same_term own A) (some n (λ l. says_A (q l))) e) [
    | inl a ↦ inl (same_is own A a)
    | inr b ↦ inr (let (l, lt, x) = some_at n (λ l. says_A (q l)) b in sum_A n q l lt (says_is (q l) x))
  ])

  pub sum_A_fits : total_term n own q ≡ A → rule_1 n own q ≡ true
  unfolding rule_1
  sum_A_fits e = elim (join_one A A≢N own (sum_term n q) (sym (total_is n own q) ∙ e)) [
    | inl a ↦ or_left _ _ (same_from own A a)
    | inr b ↦ or_right (same_term own A) (some n (λ l. says_A (q l))) (let (l, lt, x) = sum_at A A≢N n q b in some-from n (λ l. says_A (q l)) l lt (says-from (q l) x))
  ]

  pub all_own : (w : TermWord) → all_are w n own q ≡ true → own ≡ w
  unfolding all_are
  all_own w e = same_is own w (and_parts _ _ e).0

  pub all_heard : (w : TermWord) → all_are w n own q ≡ true → (l : ℕ) → l < n → only w (q l) ≡ true
  unfolding all_are
  all_heard w e = every_at n (λ l. only w (q l)) (and_parts _ _ e).1

  -- all words are N exactly where the sum is N
  pub sum_N_fits : total_term n own q ≡ N → all_are N n own q ≡ true
  unfolding all_are
  sum_N_fits e =
      let (a, b) = join_N own (sum_term n q) (sym (total_is n own q) ∙ e) in
      and_from _ _ (same_from own N a) (all_below n (λ l. only N (q l)) (λ l lt. only-N (q l) (sum_N n q b l lt)))
    where
      only-N : (o : Option TermWord) → word_or N o ≡ N → only N o ≡ true
      only-N o e = grind arith

  -- where not all words are C, its own word is not C or some word that it heard is not
  pub not_all : (w : TermWord) → all_are w n own q ≡ false → (own ≢ w) ⊎ ((l : ℕ) × (l < n) × (only w (q l) ≡ false))
  unfolding all_are
  not_all w e = elim (cases_Bool (same_term own w)) [
    | inl a ↦ inr (every_not n (λ l. only w (q l)) (right (same_term own w) (every n (λ l. only w (q l))) a e))
    | inr b ↦ inl (λ s. both_ways _ b (same_from own w s))
  ]
    where
      right : (a b : Bool) → a ≡ true → (a && b) ≡ false → b ≡ false
      right a b p q = grind arith

-- what rule 3 asks
pub record Three (n k : ℕ) (own : TermWord) (q : Heard TermWord) (own' : TermWord) (q' : Heard TermWord) : Type 0 where
  pub late : 2 ≤ k
  pub now : all_are N n own q ≡ true
  pub before : all_are N n own' q' ≡ true
  pub alike : (l : ℕ) → l < n → spoke (q l) ≡ spoke (q' l)

module _ (n k : ℕ) (own : TermWord) (q : Heard TermWord) (own' : TermWord) (q' : Heard TermWord) where
  pub three_asks : rule_3 n k own q own' q' ≡ true → Three n k own q own' q'
  unfolding same_offices
  three_asks e =
      let (a, b, c, d) = parts (leb 2 k) (all_are N n own q) (all_are N n own' q') (same_offices n q q') e in
      record {
        late = grind (arith, nat_tests);
        now = b;
        before = c;
        alike = λ l lt. beq_is (spoke (q l)) (spoke (q' l)) (every_at n (λ l. beq (spoke (q l)) (spoke (q' l))) d l lt);
      }
    where
      parts : (a b c d : Bool) → (a && (b && (c && d))) ≡ true → (a ≡ true) × (b ≡ true) × (c ≡ true) × (d ≡ true)
      parts a b c d e = grind arith

      beq_is : (a b : Bool) → beq a b ≡ true → a ≡ b
      beq_is a b h = grind arith

  -- where all words of both rounds are N and rule 3 does not fit in a round from 2 on, some office was heard in one of them only
  pub three_not : 2 ≤ k → total_term n own q ≡ N → total_term n own' q' ≡ N → rule_3 n k own q own' q' ≡ false → (l : ℕ) × (l < n) × (beq (spoke (q l)) (spoke (q' l)) ≡ false)
  unfolding same_offices
  three_not late e e' r = every_not n (λ l. beq (spoke (q l)) (spoke (q' l))) (last (leb 2 k) (all_are N n own q) (all_are N n own' q') (same_offices n q q') (grind (arith, nat_tests)) (sum_N_fits n own q e) (sum_N_fits n own' q' e') r)
    where
      last : (a b c d : Bool) → a ≡ true → b ≡ true → c ≡ true → (a && (b && (c && d))) ≡ false → d ≡ false
      last a b c d p q r e = grind arith

  -- the next word: A after rule 3, and else the sum
  pub next_is : next_word n k own q own' q' ≡ cond (rule_3 n k own q own' q') A (total_term n own q)
  next_is = four (rule_1 n own q) (rule_2 n own q) (rule_3 n k own q own' q') (total_term n own q) (A_sum n own q) (sum_A_fits n own q) two (λ c e. let t = three_asks e in not_both (all_own n own q C c) (all_own n own q N t.now))
    where
      two : rule_2 n own q ≡ true → (total_term n own q ≡ C) ⊎ (total_term n own q ≡ A)
      two e = total_high own (sum_term n q) (total_term n own q) (all_own n own q C e) (total_is n own q)
        where
          total_high : (a b t : TermWord) → a ≡ C → t ≡ higher a b → (t ≡ C) ⊎ (t ≡ A)
          total_high a b t p e = grind arith

      four : (a b c : Bool) (t : TermWord) → (a ≡ true → t ≡ A) → (t ≡ A → a ≡ true) → (b ≡ true → (t ≡ C) ⊎ (t ≡ A)) → (b ≡ true → c ≡ true → ⊥) → cond a A (cond b C (cond c A t)) ≡ cond c A t
      four a b c t p p' q r = grind arith
