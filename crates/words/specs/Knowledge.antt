-- Knowledge: three sets of offices. Assumes nothing.
use Rattle.std.specs.Prelude.{Bool, ◌&&◌, ◌==◌}
use Rattle.words.specs.declared.knowledge.Knowledge.{Knowledge}
use Rattle.words.specs.Offices.{none, union, Union}

-- nothing known: three empty sets
abbrev pub knows_nothing : Knowledge
knows_nothing = record { yes = none; no = none; ready = none }

-- what two know together, set by set
abbrev pub pooled : Knowledge → Knowledge → Knowledge
pooled a b = record { yes = union a.yes b.yes; no = union a.no b.no; ready = union a.ready b.ready }

-- whether two knowledges are equal, as a test
abbrev pub same_knowledge : Knowledge → Knowledge → Bool
same_knowledge a b = a.yes.mask == b.yes.mask && (a.no.mask == b.no.mask && a.ready.mask == b.ready.mask)

-- r is what a and b know together: each set of r is the union of theirs
pub record Pooled (a b r : Knowledge) : Type 0 where
  pub yes : Union a.yes b.yes r.yes
  pub no : Union a.no b.no r.no
  pub ready : Union a.ready b.ready r.ready
