-- A release seen as its termination and as its voting, and what every run keeps. Assumes nothing.
use Rattle.std.proofs.Common.{◌≡◌, ℕ, suc, ◌+◌, ◌-◌, ◌<◌, ◌≤◌, Bool, true, false, cond, not, ◌≢◌, ◌⊎◌, length, get_or, set, Some, None, sym, ap, ◌∙◌, subst, inl, inr, arith, length-set, get_or-set_other, get_or-set_same}
use mathlib.Core.Path.{fun_ext}
use Rattle.words.specs.declared.knowledge.Knowledge.{Knowledge}
use Rattle.words.specs.declared.term.TermWord.{TermWord}
use Rattle.words.specs.Classes.{decision_of}
use Rattle.words.specs.Offices.{member}
use Rattle.plans.specs.Covering.{Talk, Covers}
use Rattle.plans.specs.Pairs.{Proper}
use Rattle.posts.specs.Places.{Places}
use Rattle.protocol.specs.declared.office.Office.{Office}
use Rattle.protocol.specs.History.{count}
use Rattle.protocol.specs.Model.{Mail, Model, nobody, office}
use Rattle.protocol.specs.Rules.{class, first_word}
use Rattle.protocol.specs.Steps.{with_office}
use Rattle.protocol.proofs.Updates.{at1, at1_is}
use Rattle.protocol.proofs.Net.{Net, Deed, May, does, fate_at, Sound}
use Rattle.protocol.proofs.NetKeeps.{word_kept, fate_kept, dropped_kept}
use Rattle.protocol.proofs.Voting.{Votes, Fair}
use Rattle.protocol.specs.Records.{prior, terminating, word}

abbrev pub t_of : Office → ℕ
t_of o = cond (terminating o) o.round 0

abbrev pub r_of : Office → ℕ
r_of o = cond (terminating o) 0 o.round

abbrev pub net_of : ℕ → Mail TermWord → (ℕ → ℕ → TermWord) → (ℕ → Office) → Net
net_of n p w off = record { n = n; reach = p.reach; place = p.places; word = w; t = λ a. t_of (off a); dropped = λ a. not (off a).standing; told = λ a b. member (off a).told b }

abbrev pub votes_of : ℕ → ℕ → Talk → Mail Knowledge → (ℕ → Office) → Votes
votes_of n h names p off = record { n = n; h = h; names = names; knowledge = λ a. (off a).knowledge; voted = λ a. (off a).voted; r = λ a. r_of (off a); place = p.places }

abbrev pub net : Model → (ℕ → ℕ → TermWord) → Net
net m w = net_of m.n m.termination w (office m)

abbrev pub votes : Model → Votes
votes m = votes_of m.n m.h m.names m.voting (office m)

-- what a record says, beside the words of the termination
pub record Rec (s : Net) (i : ℕ) (o : Office) : Type 0 where
  pub word_now : terminating o ≡ true → word o ≡ s.word i o.round
  pub prior_now : terminating o ≡ true → prior o ≡ s.word i (o.round - 1)
  pub first : terminating o ≡ true → s.word i 1 ≡ first_word (class s.n o.knowledge)
  pub from : 1 ≤ o.round
  pub untold : terminating o ≡ false → (j : ℕ) → member o.told j ≡ false
  pub in_voting : terminating o ≡ false → (o.decision ≡ decision_of (class s.n o.knowledge)) × (o.deciding ≡ None)
  pub still_open : terminating o ≡ true → o.decision ≡ None → (decision_of (class s.n o.knowledge) ≡ None) × (o.deciding ≡ None) × (o.round ≤ suc (count s.n s.dropped)) × ((k : ℕ) → 1 ≤ k → k < o.round → fate_at s i k ≡ None)
  pub shut : terminating o ≡ true → o.decision ≢ None →
      ((o.deciding ≡ None) × (o.round ≡ 1) × (o.decision ≡ decision_of (class s.n o.knowledge)))
      ⊎ ((k : ℕ) × (o.deciding ≡ Some k) × (1 ≤ k) × (o.round ≡ suc k) × (o.decision ≡ fate_at s i k) × (decision_of (class s.n o.knowledge) ≡ None) × ((j : ℕ) → 1 ≤ j → j < k → fate_at s i j ≡ None))

-- what no call changes
pub record Fixed (m : Model) : Type 0 where
  pub two : 2 ≤ m.n
  pub few : m.n ≤ 16
  pub rounds : 1 ≤ m.h
  pub short : m.h ≤ 16
  pub voting_reach : m.h + m.h ≤ m.voting.reach
  pub termination_reach : m.n + 1 ≤ m.termination.reach
  pub proper : (r s l : ℕ) → m.names r s l ≡ true → Proper m.n m.h r s l
  pub covers : Covers m.names m.n m.h

pub record Good (m : Model) (w : ℕ → ℕ → TermWord) : Type 0 where
  pub fixed : Fixed m
  pub whole : length m.offices ≡ 16
  pub sound : Sound (net m w)
  pub fair : Fair (votes m)
  pub rec : (a : ℕ) → a < m.n → Rec (net m w) a (office m a)

-- a deed of another leaves a record true
pub rec_kept : (s : Net) (c : Deed) (a : ℕ) (o : Office) → May s c → s.t a ≡ t_of o → Rec s a o → Rec (does s c) a o
rec_kept s c a o ok te r = record {
  word_now = λ e. r.word_now e ∙ word_kept s c a o.round ok (here e);
  prior_now = λ e. r.prior_now e ∙ word_kept s c a (o.round - 1) ok (let h = here e in omega arith);
  first = λ e. sym (word_kept s c a 1 ok (one e)) ∙ r.first e;
  from = r.from;
  untold = r.untold;
  in_voting = r.in_voting;
  still_open = λ e u. let (x, y, z, f) = r.still_open e u in let d = dropped_kept s c ok in (x, y, omega arith, λ k k1 lt. sym (stays k (low e k lt)) ∙ f k k1 lt);
  shut = λ e u. elim (r.shut e u) [
    | inl x ↦ inl x
    | inr (k, dk, k1, b, d, z, f) ↦ inr (k, dk, k1, b, d ∙ stays k (low e k (omega arith)), z, λ j j1 lt. sym (stays j (low e j (omega arith))) ∙ f j j1 lt)
  ];
}
  where
    here : terminating o ≡ true → o.round ≤ s.t a
    here e = grind arith

    one : terminating o ≡ true → 1 ≤ s.t a
    one e = let f = r.from in grind arith

    low : terminating o ≡ true → (k : ℕ) → k < o.round → k < s.t a
    low e k lt = grind arith

    stays : (k : ℕ) → k < s.t a → fate_at s a k ≡ fate_at (does s c) a k
    stays k lt = fate_kept s c a k ok (omega arith) (inl lt) (inl (omega arith))

-- the table after one record of it was changed
pub office_set : (m : Model) (i : ℕ) (o : Office) → length m.offices ≡ 16 → i < 16 → office (with_office m i o) ≡ at1 (office m) i o
office_set m i o len lt = fun_ext (λ a. elim (at1_is (office m) i o a) [
  | inl (e, q) ↦ ap (λ (z : ℕ). get_or (set m.offices i o) z nobody) e ∙ get_or-set_same m.offices i o nobody (omega arith) ∙ sym q
  | inr (ne, q) ↦ get_or-set_other m.offices i a o nobody ne ∙ sym q
])

pub at1_map : {B : Type 0} (g : Office → B) (off : ℕ → Office) (i : ℕ) (o : Office) → (λ (a : ℕ). g (at1 off i o a)) ≡ at1 (λ a. g (off a)) i (g o)
at1_map g off i o = fun_ext (λ a. elim (at1_is off i o a) [
  | inl (e, q) ↦ elim (at1_is (λ a. g (off a)) i (g o) a) [ inl (_, x) ↦ ap g q ∙ sym x | inr (ne, _) ↦ absurd (ne e) ]
  | inr (ne, q) ↦ elim (at1_is (λ a. g (off a)) i (g o) a) [ inl (e, _) ↦ absurd (ne e) | inr (_, x) ↦ ap g q ∙ sym x ]
])

pub at1_id : {B : Type 0} (g : Office → B) (off : ℕ → Office) (i : ℕ) (o : Office) → g o ≡ g (off i) → ◌≡◌ {A = ℕ → B} (λ a. g (at1 off i o a)) (λ a. g (off a))
at1_id g off i o e = fun_ext (λ a. elim (at1_is off i o a) [
  | inl (q, x) ↦ ap g x ∙ e ∙ ap (λ (z : ℕ). g (off z)) (sym q)
  | inr (_, x) ↦ ap g x
])

pub net_eq : (n : ℕ) (p : Mail TermWord) (w : ℕ → ℕ → TermWord) (t t' : ℕ → ℕ) (d d' : ℕ → Bool) (b b' : ℕ → ℕ → Bool) → t ≡ t' → d ≡ d' → b ≡ b' →
    ◌≡◌ {A = Net} (record { n = n; reach = p.reach; place = p.places; word = w; t = t; dropped = d; told = b }) (record { n = n; reach = p.reach; place = p.places; word = w; t = t'; dropped = d'; told = b' })
net_eq n p w t t' d d' b b' x y z = cc

pub votes_eq : (n h : ℕ) (names : Talk) (p : Places Knowledge) (k k' : ℕ → Knowledge) (v v' : ℕ → Bool) (r r' : ℕ → ℕ) → k ≡ k' → v ≡ v' → r ≡ r' →
    ◌≡◌ {A = Votes} (record { n = n; h = h; names = names; knowledge = k; voted = v; r = r; place = p }) (record { n = n; h = h; names = names; knowledge = k'; voted = v'; r = r'; place = p })
votes_eq n h names p k k' v v' r r' x y z = cc

-- a release with one record changed
pub good_office : (m : Model) (w w' : ℕ → ℕ → TermWord) (i : ℕ) (o : Office) → Good m w → i < m.n → Sound (net_of m.n m.termination w' (at1 (office m) i o)) → Fair (votes_of m.n m.h m.names m.voting (at1 (office m) i o)) →
    ((a : ℕ) → a < m.n → Rec (net_of m.n m.termination w' (at1 (office m) i o)) a (at1 (office m) i o a)) → Good (with_office m i o) w'
good_office m w w' i o g li so fa re =
    let few = g.fixed.few in
    let e = office_set m i o g.whole (omega arith) in
    record {
      fixed = record { two = g.fixed.two; few = g.fixed.few; rounds = g.fixed.rounds; short = g.fixed.short; voting_reach = g.fixed.voting_reach; termination_reach = g.fixed.termination_reach; proper = g.fixed.proper; covers = g.fixed.covers };
      whole = length-set m.offices i o ∙ g.whole;
      sound = subst (λ f. Sound (net_of m.n m.termination w' f)) (sym e) so;
      fair = subst (λ f. Fair (votes_of m.n m.h m.names m.voting f)) (sym e) fa;
      rec = subst (λ (f : ℕ → Office). (a : ℕ) → a < m.n → Rec (net_of m.n m.termination w' f) a (f a)) (sym e) re;
    }
