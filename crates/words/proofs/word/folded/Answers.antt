use Rattle.std.proofs.Common.{◌≡◌, ap, ◌∙◌, rules}
use Rattle.std.proofs.lemmas.Iterator.{YieldsList-from_slice}
use Rattle.std.proofs.lemmas.Iterator.Consumers.{fold_from_yields_List}
use Rattle.std.specs.List.{fold}
use Rattle.words.specs.Sum.{sum_of}
use Rattle.words.proofs.Sums.{folded-sum, sum_bound, sum_any_order}
use Rattle.words.proofs.word.folded.Goals as goal

pub returns : goal.returns
returns g c =
    let m = g.W.Joining in
    let k = g.met.W.Joining in
    let xs = c.args.words.now in
    let began = ap (λ a. fold m.join a xs) c.empty.ensures in
    let whole : c.fold.result ≡ sum_of m.nil m.join xs = fold_from_yields_List _ m.join _ _ c.fold.ensures.ran (YieldsList-from_slice xs cc) (λ a x b q e. search rules) ∙ began ∙ folded-sum m.nil m.join k.assoc k.comm k.idem k.unit xs in
    record {
      value = whole;
      bound = sum_bound m.nil m.join k.assoc k.comm k.idem k.unit xs _ whole;
      any_order = sum_any_order m.nil m.join k.assoc k.comm k.idem k.unit xs _ whole;
    }
