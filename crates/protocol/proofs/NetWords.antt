-- What the words of a round say, by the rules. Assumes nothing.
use Rattle.std.proofs.Common.{◌≡◌, ℕ, ◌-◌, ◌<◌, ◌≤◌, Bool, true, false, cond, ◌≢◌, ◌⊎◌, Option, sym, ◌∙◌, inl, inr, arith}
use Rattle.words.specs.declared.term.TermWord.{TermWord}
use Rattle.protocol.specs.Hearing.{spoke}
use Rattle.protocol.specs.Letters.{N, C, A}
use Rattle.protocol.specs.Rules.{only}
use Rattle.protocol.proofs.Sums.{word_or, join_N, join_C, join_one, join_A, sum_term, sum_N, sum_C, sum_A, sum_at, total_is}
use Rattle.protocol.proofs.Rules.{A_sum, sum_A_fits, all_own, all_heard, three_asks, next_is}
use Rattle.protocol.proofs.Net.{Net, hears, sum_of, fits1, fits2, fits3, next}

next_at : (s : Net) (i k : ℕ) → next s i k ≡ cond (fits3 s i k) A (sum_of s i k)
next_at s i k = next_is s.n k (s.word i k) (hears s i k) (s.word i (k - 1)) (hears s i (k - 1))

pub next_N : (s : Net) (i k : ℕ) → next s i k ≡ N → (fits3 s i k ≡ false) × (sum_of s i k ≡ N)
next_N s i k e = split (fits3 s i k) (sum_of s i k) (sym (next_at s i k) ∙ e)
  where
    split : (b : Bool) (w : TermWord) → cond b A w ≡ N → (b ≡ false) × (w ≡ N)
    split b w e = grind arith

pub next_C : (s : Net) (i k : ℕ) → next s i k ≡ C → sum_of s i k ≡ C
next_C s i k e = split (fits3 s i k) (sum_of s i k) (sym (next_at s i k) ∙ e)
  where
    split : (b : Bool) (w : TermWord) → cond b A w ≡ C → w ≡ C
    split b w e = grind arith

pub next_A : (s : Net) (i k : ℕ) → next s i k ≡ A → (fits3 s i k ≡ true) ⊎ (sum_of s i k ≡ A)
next_A s i k e = split (fits3 s i k) (sum_of s i k) (sym (next_at s i k) ∙ e)
  where
    split : (b : Bool) (w : TermWord) → cond b A w ≡ A → (b ≡ true) ⊎ (w ≡ A)
    split b w e = grind arith

-- after an abort the next word is A
pub says_A_next : (s : Net) (j q : ℕ) → (fits1 s j q ≡ true) ⊎ (fits3 s j q ≡ true) → next s j q ≡ A
says_A_next s j q e = next_at s j q ∙ either (fits1 s j q) (fits3 s j q) (sum_of s j q) e (A_sum s.n (s.word j q) (hears s j q))
  where
    either : (a c : Bool) (t : TermWord) → (a ≡ true) ⊎ (c ≡ true) → (a ≡ true → t ≡ A) → cond c A t ≡ A
    either a c t e g = grind arith

pub own_N : (s : Net) (i k : ℕ) → sum_of s i k ≡ N → s.word i k ≡ N
own_N s i k e = (join_N (s.word i k) (sum_term s.n (hears s i k)) (sym (total_is s.n (s.word i k) (hears s i k)) ∙ e)).0

pub hears_N : (s : Net) (i k : ℕ) → sum_of s i k ≡ N → (l : ℕ) → l < s.n → word_or N (hears s i k l) ≡ N
hears_N s i k e = sum_N s.n (hears s i k) (join_N (s.word i k) (sum_term s.n (hears s i k)) (sym (total_is s.n (s.word i k) (hears s i k)) ∙ e)).1

pub word_C : (s : Net) (i k : ℕ) → fits2 s i k ≡ true → s.word i k ≡ C
word_C s i k e = all_own s.n (s.word i k) (hears s i k) C e

pub record Fits3 (s : Net) (i k : ℕ) : Type 0 where
  pub late : 2 ≤ k
  pub own : s.word i k ≡ N
  pub all : (l : ℕ) → l < s.n → word_or N (hears s i k l) ≡ N
  pub alike : (l : ℕ) → l < s.n → spoke (hears s i k l) ≡ spoke (hears s i (k - 1) l)

pub unpack3 : (s : Net) (i k : ℕ) → fits3 s i k ≡ true → Fits3 s i k
unpack3 s i k h =
    let t = three_asks s.n k (s.word i k) (hears s i k) (s.word i (k - 1)) (hears s i (k - 1)) h in
    record {
      late = t.late;
      own = all_own s.n (s.word i k) (hears s i k) N t.now;
      all = λ l ll. only-N (hears s i k l) (all_heard s.n (s.word i k) (hears s i k) N t.now l ll);
      alike = t.alike;
    }
  where
    only-N : (o : Option TermWord) → only N o ≡ true → word_or N o ≡ N
    only-N o e = grind arith

pub word_N : (s : Net) (i k : ℕ) → fits3 s i k ≡ true → s.word i k ≡ N
word_N s i k e = (unpack3 s i k e).own

-- an A among the words is the sum
pub fits1_A : (s : Net) (i k : ℕ) → fits1 s i k ≡ true → sum_of s i k ≡ A
fits1_A s i k e = A_sum s.n (s.word i k) (hears s i k) e

pub A_fits1 : (s : Net) (i k : ℕ) → sum_of s i k ≡ A → fits1 s i k ≡ true
A_fits1 s i k e = sum_A_fits s.n (s.word i k) (hears s i k) e

-- where the sum is w, higher than N, its own word is w or it heard w
pub among : (w : TermWord) → w ≢ N → (s : Net) (i k : ℕ) → sum_of s i k ≡ w → (s.word i k ≡ w) ⊎ ((z : ℕ) × (z < s.n) × (word_or N (hears s i k z) ≡ w))
among w nn s i k e = elim (join_one w nn (s.word i k) (sum_term s.n (hears s i k)) (sym (total_is s.n (s.word i k) (hears s i k)) ∙ e)) [ inl c ↦ inl c | inr c ↦ inr (sum_at w nn s.n (hears s i k) c) ]

-- where neither its own word nor one that it heard is C, the sum is not C
pub none-C : (s : Net) (i k : ℕ) → s.word i k ≢ C → ((x : ℕ) → x < s.n → word_or N (hears s i k x) ≢ C) → sum_of s i k ≢ C
none-C s i k p q = rw (total_is s.n (s.word i k) (hears s i k)) (join_C (s.word i k) (sum_term s.n (hears s i k)) p (sum_C s.n (hears s i k) q))

pub next_not_C : (s : Net) (i k : ℕ) → sum_of s i k ≢ C → next s i k ≢ C
next_not_C s i k p e = p (next_C s i k e)

-- an A that it heard makes the sum A
pub heard-A : (s : Net) (i k z : ℕ) → z < s.n → word_or N (hears s i k z) ≡ A → sum_of s i k ≡ A
heard-A s i k z lz e = total_is s.n (s.word i k) (hears s i k) ∙ join_A (s.word i k) (sum_term s.n (hears s i k)) (inr (sum_A s.n (hears s i k) z lz e))
