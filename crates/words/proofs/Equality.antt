-- The tests of equality that definitions ask are exact, and so the == of the words. Assumes nothing.
use Rattle.std.proofs.Common.{◌≡◌, Bool, Decides, rules}
use Rattle.std.proofs.lemmas.Bool.Decides.{same_from_decides}
use Rattle.words.specs.declared.knowledge.Knowledge.{Knowledge}
use Rattle.words.specs.declared.term.TermWord.{TermWord}
use Rattle.words.specs.Knowledge.{same_knowledge}
use Rattle.words.specs.Terms.{same_term}

-- the test of knowledge is exact
pub same_knowledge_decides : (x y : Knowledge) → Decides (same_knowledge x y) (x ≡ y)
same_knowledge_decides = Prim.search rules

-- the test of termination words is exact
pub same_term_decides : (x y : TermWord) → Decides (same_term x y) (x ≡ y)
same_term_decides = Prim.search rules

-- an == of knowledge that is exact, as the law of a word has it, is that test
pub knowledge_eq : (eq : Knowledge → Knowledge → Bool) → ((x y : Knowledge) → Decides (eq x y) (x ≡ y)) → (x y : Knowledge) → eq x y ≡ same_knowledge x y
knowledge_eq eq exact x y = same_from_decides _ _ (exact x y) (same_knowledge_decides x y)

-- an == of termination words that is exact is that test
pub term_eq : (eq : TermWord → TermWord → Bool) → ((x y : TermWord) → Decides (eq x y) (x ≡ y)) → (x y : TermWord) → eq x y ≡ same_term x y
term_eq eq exact x y = same_from_decides _ _ (exact x y) (same_term_decides x y)
