-- The voting alone: what the offices know, the round of each that is in voting (0 where it has left), and the places. Assumes nothing.
use Rattle.std.proofs.Common.{◌≡◌, ℕ, suc, ◌+◌, ◌-◌, ◌<◌, ◌≤◌, Bool, true, false, cond, not, ◌||◌, ◌⊎◌}
use Rattle.words.specs.declared.knowledge.Knowledge.{Knowledge}
use Rattle.words.specs.Below.{every}
use Rattle.words.specs.Knowledge.{knows_nothing}
use Rattle.words.specs.Offices.{member, added, empty, full}
use Rattle.plans.specs.Covering.{Talk, Knows, Covers}
use Rattle.plans.specs.Pairs.{Proper}
use Rattle.posts.specs.declared.place.Place.{Place}
use Rattle.posts.specs.declared.place.Place.TheVariants.{Empty, Waiting, Taken}
use Rattle.posts.specs.Places.{Places, vacant}
use Rattle.protocol.specs.Hearing.{heard, spoke}
use Rattle.protocol.specs.Model.{plan_round}
use Rattle.protocol.specs.Rules.{learns}
use Rattle.protocol.specs.Steps.{taken}
use Rattle.protocol.proofs.Updates.{at1, at3}

pub record Votes : Type 0 where
  pub n : ℕ
  pub h : ℕ
  pub names : Talk
  pub knowledge : ℕ → Knowledge
  pub voted : ℕ → Bool
  pub r : ℕ → ℕ
  pub place : Places Knowledge

pub data Move : Type 0 where
  yes no close leave : ℕ → Move
  say hear : ℕ → ℕ → Move

-- the last round of i, by what it knows
abbrev pub last : Votes → ℕ → ℕ
last u i = cond (empty (u.knowledge i).no) (u.h + u.h) u.h

abbrev pub named : Votes → ℕ → ℕ → ℕ → Bool
named u k s l = u.names (plan_round u.h k) s l

-- whether the word in a place was taken
abbrev pub is_taken : {W : Type 0} → Place W → Bool
is_taken p = spoke (heard p)

abbrev pub spoken : Votes → ℕ → ℕ → Bool
spoken u i j = not (named u (u.r i) i j) || not (vacant (u.place i j (u.r i)))

abbrev pub listened : Votes → ℕ → ℕ → Bool
listened u i j = not (named u (u.r i) j i) || is_taken (u.place j i (u.r i))

abbrev pub Can : Votes → Move → Type 0
Can u (yes i) = (i < u.n) × (u.voted i ≡ false) × (1 ≤ u.r i)
Can u (no i) = (i < u.n) × (u.voted i ≡ false) × (1 ≤ u.r i)
Can u (say i j) = (i < u.n) × (j < u.n) × (u.voted i ≡ true) × (1 ≤ u.r i) × (u.r i ≤ last u i) × (named u (u.r i) i j ≡ true) × (vacant (u.place i j (u.r i)) ≡ true)
Can u (hear i j) = (i < u.n) × (j < u.n) × (1 ≤ u.r i)
Can u (close i) = (i < u.n) × (u.voted i ≡ true) × (1 ≤ u.r i) × (u.r i ≤ last u i) × (every u.n (spoken u i) ≡ true) × (every u.n (listened u i) ≡ true)
Can u (leave i) = i < u.n

abbrev pub closed_known : Votes → ℕ → Knowledge
closed_known u i = learns u.n i (u.knowledge i) (λ l. heard (u.place l i (u.r i)))

abbrev pub known_after : Votes → Move → ℕ → Knowledge
known_after u (yes i) = at1 u.knowledge i (record (u.knowledge i) { yes = added (u.knowledge i).yes i })
known_after u (no i) = at1 u.knowledge i (record (u.knowledge i) { no = added (u.knowledge i).no i })
known_after u (close i) = at1 u.knowledge i (closed_known u i)
known_after u _ = u.knowledge

abbrev pub voted-after : Votes → Move → ℕ → Bool
voted-after u (yes i) = at1 u.voted i true
voted-after u (no i) = at1 u.voted i true
voted-after u _ = u.voted

abbrev pub round_after : Votes → Move → ℕ → ℕ
round_after u (close i) = at1 u.r i (suc (u.r i))
round_after u (leave i) = at1 u.r i 0
round_after u _ = u.r

abbrev pub place_after : Votes → Move → Places Knowledge
place_after u (say i j) = at3 u.place i j (u.r i) (Waiting (u.knowledge i))
place_after u (hear i j) = at3 u.place j i (u.r i) (taken (u.place j i (u.r i)))
place_after u _ = u.place

abbrev pub moved : Votes → Move → Votes
moved u v = record u { knowledge = known_after u v; voted = voted-after u v; r = round_after u v; place = place_after u v }

-- the word in a place
abbrev pub content : Place Knowledge → Knowledge
content Empty = knows_nothing
content (Waiting w) = w
content (Taken w) = w

abbrev pub has_yes : Votes → ℕ → ℕ → Bool
has_yes u i j = member (u.knowledge i).yes j

abbrev pub has_no : Votes → ℕ → ℕ → Bool
has_no u i j = member (u.knowledge i).no j

abbrev pub has_ready : Votes → ℕ → ℕ → Bool
has_ready u i j = member (u.knowledge i).ready j

-- whom office i knows of after m rounds of the plan
abbrev pub Knew : Votes → ℕ → ℕ → ℕ → Type 0
Knew u m i l = Knows u.names m i l

-- whom an office that is in round k has in its yes or no
abbrev pub Reached : Votes → ℕ → ℕ → ℕ → Type 0
Reached u k i l = ((k ≤ u.h) × Knew u (k - 1) i l) ⊎ ((u.h < k) × (l < u.n))

-- where a word lies: it was spoken by s in round k, and in its own round it is what s knows
abbrev pub Lies : Votes → ℕ → ℕ → ℕ → Type 0
Lies u s d k =
    (u.place s d k ≡ Empty)
    ⊎ ((s < u.n) × (u.voted s ≡ true) × (1 ≤ k) × (named u k s d ≡ true) × ((u.r s ≡ 0) ⊎ ((k < u.r s) ⊎ ((k ≡ u.r s) × (content (u.place s d k) ≡ u.knowledge s)))))

pub record Fair (u : Votes) : Type 0 where
  pub blank : (i : ℕ) → u.voted i ≡ false → (u.knowledge i ≡ knows_nothing) × (u.r i ≤ 1)
  pub yes_own : (i j : ℕ) → has_yes u i j ≡ true → (j < u.n) × (has_yes u j j ≡ true)
  pub no_own : (i j : ℕ) → has_no u i j ≡ true → (j < u.n) × (has_no u j j ≡ true)
  pub ready_own : (i j : ℕ) → has_ready u i j ≡ true → full u.n (u.knowledge j).yes ≡ true
  pub one_vote : (j : ℕ) → has_yes u j j ≡ true → has_no u j j ≡ true → ⊥
  pub in_yes : (s d k j : ℕ) → member (content (u.place s d k)).yes j ≡ true → has_yes u s j ≡ true
  pub in_no : (s d k j : ℕ) → member (content (u.place s d k)).no j ≡ true → has_no u s j ≡ true
  pub in_ready : (s d k j : ℕ) → member (content (u.place s d k)).ready j ≡ true → has_ready u s j ≡ true
  pub lies : (s d k : ℕ) → Lies u s d k
  pub spoke : (i j k : ℕ) → 1 ≤ k → k < u.r i → j < u.n → named u k i j ≡ true → vacant (u.place i j k) ≡ false
  pub took : (i j k : ℕ) → 1 ≤ k → k < u.r i → j < u.n → named u k j i ≡ true → is_taken (u.place j i k) ≡ true
  pub bounded : (i : ℕ) → u.r i ≤ suc (u.h + u.h)
  pub learnt : (i l : ℕ) → i < u.n → u.voted i ≡ true → 1 ≤ u.r i → Reached u (u.r i) i l → (has_yes u i l || has_no u i l) ≡ true
  pub learnt_in : (s d k l : ℕ) → vacant (u.place s d k) ≡ false → Reached u k s l → (member (content (u.place s d k)).yes l || member (content (u.place s d k)).no l) ≡ true
  pub primed : (i l : ℕ) → i < u.n → u.h < u.r i → (u.knowledge i).no.mask ≡ 0 → Knew u (u.r i - suc u.h) i l → has_ready u i l ≡ true
  pub primed_in : (s d k l : ℕ) → vacant (u.place s d k) ≡ false → u.h < k → ((content (u.place s d k)).no.mask ≡ 0) × (Knew u (k - suc u.h) s l → member (content (u.place s d k)).ready l ≡ true)

-- what the plan gives, and that an office has a bit in a set
pub record Plan (u : Votes) : Type 0 where
  pub few : u.n ≤ 16
  pub one : 1 ≤ u.h
  pub proper : (r s l : ℕ) → u.names r s l ≡ true → Proper u.n u.h r s l
  pub cover : Covers u.names u.n u.h
