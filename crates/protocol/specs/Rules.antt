-- The rules by which an office closes a round. Assumes nothing.
use Rattle.std.specs.Prelude.{ℕ, Bool, true, false, cond, ◌&&◌, ◌||◌, Some, None, Option, nat_le}
use Rattle.std.specs.Bool.{beq}
use Rattle.words.specs.declared.knowledge.Class.{Class}
use Rattle.words.specs.declared.knowledge.Class.TheVariants.{Noncommittable, Committable, Committed, Aborted}
use Rattle.words.specs.declared.knowledge.Decision.{Decision}
use Rattle.words.specs.declared.knowledge.Knowledge.{Knowledge}
use Rattle.words.specs.declared.term.TermWord.{TermWord}
use Rattle.words.specs.Below.{every, some}
use Rattle.words.specs.Classes.{class_of}
use Rattle.words.specs.Knowledge.{knows_nothing, pooled}
use Rattle.words.specs.Offices.{full, added}
use Rattle.words.specs.Terms.{higher, same_term}
use Rattle.protocol.specs.Hearing.{Heard, spoke, total}
use Rattle.protocol.specs.Letters.{N, C, A, to_abort, to_commit}

-- Voting.

-- a knowledge to which office i adds itself in ready, if yes holds all n
unfoldable pub readied : ℕ → ℕ → Knowledge → Knowledge
readied n i k = cond (full n k.yes) (record k { ready = added k.ready i }) k

-- what office i knows once it closed a voting round in which it heard q: its own and the heard words joined, and if yes then holds all n, it adds itself to ready
abbrev pub learns : ℕ → ℕ → Knowledge → Heard Knowledge → Knowledge
learns n i own q = readied n i (total knows_nothing pooled n own q)

-- the class of a knowledge among n offices
unfoldable pub class : ℕ → Knowledge → Class
class n k = class_of n k

-- Termination. Of n offices, one closes its round: it spoke the word `own` and heard the words q.

-- the first word of an office that enters, by its class
abbrev pub first_word : Class → TermWord
first_word Aborted = A
first_word Committed = C
first_word Committable = C
first_word Noncommittable = N

-- whether the word, if one was heard, is w
abbrev pub only : TermWord → Option TermWord → Bool
only w None = true
only w (Some x) = same_term x w

-- whether all words, its own and those that it heard, are w
unfoldable pub all_are : TermWord → ℕ → TermWord → Heard TermWord → Bool
all_are w n own q = same_term own w && every n (λ l. only w (q l))

-- whether the word was heard and is A
abbrev pub says_A : Option TermWord → Bool
says_A None = false
says_A (Some x) = same_term x A

-- rule 1: an A was heard; its own word counts as heard
unfoldable pub rule_1 : ℕ → TermWord → Heard TermWord → Bool
rule_1 n own q = same_term own A || some n (λ l. says_A (q l))

-- rule 2: all words were C
abbrev pub rule_2 : ℕ → TermWord → Heard TermWord → Bool
rule_2 n own q = all_are C n own q

-- whether q and q' were heard from the same offices
unfoldable pub same_offices : ℕ → Heard TermWord → Heard TermWord → Bool
same_offices n q q' = every n (λ l. beq (spoke (q l)) (spoke (q' l)))

-- rule 3: all words were N in this round k and in the preceding one, where it spoke own' and heard q', from the same offices
abbrev pub rule_3 : ℕ → ℕ → TermWord → Heard TermWord → TermWord → Heard TermWord → Bool
rule_3 n k own q own' q' = nat_le 2 k && (all_are N n own q && (all_are N n own' q' && same_offices n q q'))

-- the decision by the first rule that fits: rules 1 and 3 abort, rule 2 commits, and rule 4 leaves it open
abbrev pub ruling : ℕ → ℕ → TermWord → Heard TermWord → TermWord → Heard TermWord → Option Decision
ruling n k own q own' q' = cond (rule_1 n own q) to_abort (cond (rule_2 n own q) to_commit (cond (rule_3 n k own q own' q') to_abort None))

-- the next word by the first rule that fits: A after an abort, C after a commit, and by rule 4 the sum of this round's words
abbrev pub next_word : ℕ → ℕ → TermWord → Heard TermWord → TermWord → Heard TermWord → TermWord
next_word n k own q own' q' = cond (rule_1 n own q) A (cond (rule_2 n own q) C (cond (rule_3 n k own q own' q') A (total N higher n own q)))
