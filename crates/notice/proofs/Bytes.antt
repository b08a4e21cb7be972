-- What the writes of a notice line leave in the output. Assumes nothing.
use Rattle.std.proofs.Common.{◌≡◌, ℕ, suc, ◌+◌, ◌-◌, ◌<◌, ◌≤◌, List, [], ◌∷◌, ◌++◌, length, drop, set, sym, ap, ◌∙◌, append_assoc, arith, length-append}
use borrow.Rule.Slice.PartMut.{put_mid}
use Rattle.std.proofs.lemmas.List.{drop-drop, drop_more, set_at, length_push}
use Rattle.notice.specs.Lines.{over}

-- what follows the line feed is the output past the line
pub line_rest : (out rest after tail text : List ℕ) (feed : ℕ) → rest ≡ drop 3 out → after ≡ drop (length text) rest → after ≡ feed ∷ tail → tail ≡ drop (suc (suc (suc (length (text ++ 10 ∷ []))))) out
line_rest out rest after tail text feed a b c =
    let size : 3 + (length text + 1) ≡ suc (suc (suc (length (text ++ 10 ∷ [])))) = simp length-append (omega arith) in
    let line : drop 1 after ≡ drop (3 + (length text + 1)) out = ap (drop 1) (b ∙ ap (drop (length text)) a) ∙ drop-drop 1 (length text) (drop 3 out) ∙ drop-drop (length text + 1) 3 out in
    sym (ap (drop 1) c) ∙ line ∙ ap (λ n. drop n out) size

-- the text and its line feed, in what follows the first three bytes
text-put : (rest text : List ℕ) → length text < length rest → set (text ++ drop (length text) rest) (length text) 10 ≡ over (text ++ 10 ∷ []) rest
text-put rest text room = rw (drop_more rest (length text) 0 room, set_at, length_push, append_assoc)

-- the whole line, where its bytes are set one by one in the output
pub line_put : (out text : List ℕ) (a b : ℕ) → length text + 4 ≤ length out → set (put_mid 3 (length text + 3 - 3) (set (set (set out 0 a) 1 b) 2 32) text) (length text + 3) 10 ≡ over (a ∷ b ∷ 32 ∷ (text ++ 10 ∷ [])) out
line_put [] text a b room = absurd (omega arith)
line_put (x ∷ []) text a b room = absurd (omega arith)
line_put (x ∷ y ∷ []) text a b room = absurd (omega arith)
line_put (x ∷ y ∷ z ∷ rest) text a b room =
    let part : length text + 3 - 3 ≡ length text = omega arith in
    let last : length text + 3 ≡ suc (suc (suc (length text))) = omega arith in
    rw (part, last) (ap (λ l. a ∷ b ∷ 32 ∷ l) (text-put rest text (omega arith)))
