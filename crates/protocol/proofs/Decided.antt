-- Agreement, in one state. Assumes nothing.
use Rattle.std.proofs.Common.{◌≡◌, ℕ, ◌<◌, ◌≤◌, Bool, true, false, cond, ◌≢◌, ◌⊎◌, None, sym, ◌∙◌, inl, inr, arith}
use Rattle.std.proofs.lemmas.Bool.Decides.{nat_tests}
use Rattle.std.proofs.lemmas.Bool.{not-true, cases_Bool, cond-true}
use Rattle.std.proofs.lemmas.Option.{none-some}
use Rattle.words.specs.declared.knowledge.Knowledge.{Knowledge}
use Rattle.words.specs.declared.term.TermWord.{TermWord}
use Rattle.words.specs.Classes.{decision_of}
use Rattle.words.specs.Offices.{full}
use Rattle.protocol.specs.Letters.{N, C, A, to_abort, to_commit}
use Rattle.protocol.specs.Model.{Model, office}
use Rattle.protocol.specs.Rules.{class, first_word}
use Rattle.protocol.proofs.NetLimit.{word_from}
use Rattle.protocol.proofs.Sums.{A≢N, full_at, some-member}
use Rattle.protocol.proofs.Net.{Net, fits1, fits2, fits3, fate_at, Sound}
use Rattle.protocol.proofs.NetAgree.{rises, agreed}
use Rattle.protocol.proofs.NetWhole.{A-from, C-first}
use Rattle.protocol.proofs.NetWords.{word_C, word_N, fits1_A}
use Rattle.protocol.proofs.Voting.{has_yes, has_no}
use Rattle.protocol.proofs.View.{t_of, net, votes, Good}
use Rattle.protocol.specs.Records.{terminating}

pub no_rule : (a b c : Bool) → cond a to_abort (cond b to_commit (cond c to_abort None)) ≡ None → (a ≡ false) × (b ≡ false) × (c ≡ false)
no_rule a b c e = grind arith

pub three_abort : (a b c : Bool) → cond a to_abort (cond b to_commit (cond c to_abort None)) ≡ to_abort → (a ≡ true) ⊎ (c ≡ true)
three_abort a b c e = grind arith

pub three_commit : (a b c : Bool) → cond a to_abort (cond b to_commit (cond c to_abort None)) ≡ to_commit → b ≡ true
three_commit a b c e = grind arith

pub class_abort : (n : ℕ) (k : Knowledge) → decision_of (class n k) ≡ to_abort → k.no.mask ≢ 0
unfolding class
class_abort n k e z = grind (arith, nat_tests)

pub class_commit : (n : ℕ) (k : Knowledge) → decision_of (class n k) ≡ to_commit → full n k.ready ≡ true
unfolding class
class_commit n k e = grind (arith, nat_tests)

pub class-C : (n : ℕ) (k : Knowledge) → first_word (class n k) ≡ C → (full n k.ready ≡ true) ⊎ (full n k.yes ≡ true)
unfolding class
class-C n k e = grind (arith, nat_tests)

pub class-A : (n : ℕ) (k : Knowledge) → first_word (class n k) ≡ A → k.no.mask ≢ 0
unfolding class
class-A n k e z = grind (arith, nat_tests)

pub class-N : (n : ℕ) (k : Knowledge) → full n k.yes ≡ true → first_word (class n k) ≢ N
unfolding class
class-N n k f e = grind (arith, nat_tests)

-- where nobody entered with A, an abort in the termination goes back to rule 3
rule_three : (s : Net) → Sound s → (i k : ℕ) → i < s.n → 1 ≤ k → k < s.t i → ((a : ℕ) → a < s.n → 1 ≤ s.t a → s.word a 1 ≢ A) → (fits1 s i k ≡ true) ⊎ (fits3 s i k ≡ true) → (a : ℕ) × (r : ℕ) × (a < s.n) × (1 ≤ r) × (r < s.t a) × (fits3 s a r ≡ true)
rule_three s h i k li k1 kt no-A (inr r3) = (i, k, li, k1, kt, r3)
rule_three s h i k li k1 kt no-A (inl r1) =
    let (l, ll, kl, wl) = word_from A A≢N s h i k li (omega arith) (fits1_A s i k r1) in
    A-from s h no-A k l ll k1 kl wl

module _ (m : Model) (w : ℕ → ℕ → TermWord) (g : Good m w) where
  -- where a decision comes from: the class of what i knows, or a termination closing
  pub source : (i : ℕ) → i < m.n → (office m i).decision ≢ None → ((office m i).decision ≡ decision_of (class m.n (office m i).knowledge)) ⊎ ((k : ℕ) × (1 ≤ k) × (k < (net m w).t i) × ((office m i).decision ≡ fate_at (net m w) i k))
  source i li nd = elim (cases_Bool (terminating (office m i))) [
    | inr p ↦ inl ((g.rec i li).in_voting p).0
    | inl p ↦ elim ((g.rec i li).shut p nd) [
      | inl (_, _, e) ↦ inl e
      | inr (k, _, k1, e, f, _, _) ↦ let te : t_of (office m i) ≡ (office m i).round = cond-true _ _ _ p in inr (k, k1, omega arith, f)
    ]
  ]

  pub in_ending : (i : ℕ) → 1 ≤ (net m w).t i → terminating (office m i) ≡ true
  in_ending i t1 = go (terminating (office m i)) (office m i).round t1
    where
      go : (b : Bool) (x : ℕ) → 1 ≤ cond b x 0 → b ≡ true
      go b x e = grind arith

  pub first_of : (i : ℕ) → i < m.n → 1 ≤ (net m w).t i → (net m w).word i 1 ≡ first_word (class m.n (office m i).knowledge)
  first_of i li t1 = (g.rec i li).first (in_ending i t1)

  pub yes_all : (i : ℕ) → full m.n (office m i).knowledge.yes ≡ true → (j : ℕ) → j < m.n → has_yes (votes m) j j ≡ true
  yes_all i f j lj = (g.fair.yes_own i j (full_at m.n _ f j lj)).1

  pub ready_all : (i : ℕ) → full m.n (office m i).knowledge.ready ≡ true → (j : ℕ) → j < m.n → full m.n (office m j).knowledge.yes ≡ true
  ready_all i f j lj = g.fair.ready_own i j (full_at m.n _ f j lj)

  pub all_ready : (i : ℕ) → full m.n (office m i).knowledge.ready ≡ true → (j : ℕ) → j < m.n → has_yes (votes m) j j ≡ true
  all_ready i f j lj = yes_all j (ready_all i f j lj) j lj

  -- commit: every office voted yes
  pub commit_yes : (i : ℕ) → i < m.n → (office m i).decision ≡ to_commit → (j : ℕ) → j < m.n → has_yes (votes m) j j ≡ true
  commit_yes i li e j lj = elim (source i li (λ u. none-some _ (sym u ∙ e))) [
    | inl q ↦ all_ready i (class_commit m.n _ (sym q ∙ e)) j lj
    | inr (k, k1, kt, q) ↦
        let (z, lz, t1, wz) = C-first (net m w) g.sound k i li k1 (omega arith) (word_C (net m w) i k (three_commit _ _ _ (sym q ∙ e))) in
        elim (class-C m.n _ (sym (first_of z lz t1) ∙ wz)) [ inl r ↦ all_ready z r j lj | inr y ↦ yes_all z y j lj ]
  ]

  pub no_voter : (i : ℕ) → (office m i).knowledge.no.mask ≢ 0 → (j : ℕ) × (j < m.n) × (has_no (votes m) j j ≡ true)
  no_voter i ne = let (x, e) = some-member (office m i).knowledge.no ne in let (lx, y) = g.fair.no_own i x e in (x, lx, y)

  -- abort: an office voted no or dropped out
  pub abort_no : (i : ℕ) → i < m.n → (office m i).decision ≡ to_abort → (j : ℕ) × (j < m.n) × ((has_no (votes m) j j ≡ true) ⊎ ((office m j).standing ≡ false))
  abort_no i li e = elim (source i li (λ u. none-some _ (sym u ∙ e))) [
    | inl q ↦ let (x, lx, y) = no_voter i (class_abort m.n _ (sym q ∙ e)) in (x, lx, inl y)
    | inr (k, k1, kt, q) ↦ let (d, ld, x, _) = g.sound.cause i (omega arith) in (d, ld, inr (not-true _ x))
  ]

  pub opposite : (i j : ℕ) → i < m.n → j < m.n → (office m i).decision ≡ to_abort → (office m j).decision ≡ to_commit → ⊥
  opposite i j li lj ea ec =
      let ys = commit_yes j lj ec in
      let nobody : (a : ℕ) → (office m a).knowledge.no.mask ≢ 0 → ⊥ = λ a ne. (let (x, lx, y) = no_voter a ne in g.fair.one_vote x (ys x lx) y) in
      let s : Net = net m w in
      let no-A : (a : ℕ) → a < m.n → 1 ≤ s.t a → s.word a 1 ≢ A = λ a la t1 e. nobody a (class-A m.n _ (sym (first_of a la t1) ∙ e)) in
      elim (source i li (λ u. none-some _ (sym u ∙ ea))) [
        | inl q ↦ nobody i (class_abort m.n _ (sym q ∙ ea))
        | inr (k, k1, kt, q) ↦
            let (a, r, la, r1, ra, r3) = rule_three s g.sound i k li k1 kt no-A (three_abort (fits1 s i k) (fits2 s i k) (fits3 s i k) (sym q ∙ ea)) in
            elim (source j lj (λ u. none-some _ (sym u ∙ ec))) [
              | inl c ↦
                  let y = ready_all j (class_commit m.n _ (sym c ∙ ec)) a la in
                  class-N m.n _ y (sym (first_of a la (omega arith)) ∙ rises s g.sound a r 1 (omega arith) r1 (omega arith) (word_N s a r r3))
              | inr (k', k1', kt', c) ↦ agreed s g.sound a j r k' la lj r1 k1' ra kt' r3 (three_commit _ _ _ (sym c ∙ ec))
            ]
      ]
