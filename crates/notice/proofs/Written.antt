-- What a notice line answers, from what its parts do. Assumes nothing.
use Rattle.std.proofs.Common.{ℕ, ◌≡◌, ◌+◌, ◌<◌, List, length, Option, Some, None, refl, inl, inr, arith, length-append}
use Rattle.std.specs.Option.{ok_or}
use Rattle.refusals.specs.Questions.{Passes}
use Rattle.notice.specs.declared.fault.NoticeFault.TheVariants.{Room}
use Rattle.notice.specs.Lines.{notice_line, line_questions, PutOver, Written}
use Rattle.notice.specs.Texts.{TextFor, text_questions}
use Rattle.notice.proofs.Unique.{line_fits, line_over}

module _ (own english : List ℕ) (code : ℕ) where
  -- a notice line, by its look-up and what is put over the output
  pub written : (office : ℕ) (text before after : List ℕ) (put : Option ℕ) → office < 16 → Passes (text_questions own english code) → TextFor own english code text → PutOver (notice_line office text) before after put → Written office code own english before after (ok_or put Room)
  unfolding line_questions
  written office text before after (Some n) below (sized, (formed, (holds, _))) right (put, end, within) =
      let size : length (notice_line office text) ≡ length text + 4 = simp length-append (omega arith) in
      let fits = line_fits own english code office (length before) text right (omega arith) in
      ((below, (sized, (formed, (holds, (fits, tt))))), record { text = text; right = right; put = put; end = end; within = within })
  written office text before after None below (sized, (formed, (holds, _))) right (kept, short) =
      let size : length (notice_line office text) ≡ length text + 4 = simp length-append (omega arith) in
      let over = line_over own english code office (length before) text right (omega arith) in
      (inr (below, inr (sized, inr (formed, inr (holds, inl (over, refl))))), kept)
