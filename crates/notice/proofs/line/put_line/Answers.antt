use Rattle.std.proofs.Common.{[], ◌∷◌, arith, append_assoc, length-append}
use Rattle.notice.proofs.Bytes.{line_rest}
use Rattle.notice.proofs.line.put_line.Goals as goal

pub returns : goal.returns
returns c =
    let out = c.in_ok-out.ensures.cases in
    let place = c.in_ok-rest.ensures.cases in
    let feed = c.in_ok-rest-2.ensures.cases in
    let rest = line_rest c.args.out.now _ _ _ c.args.text.now _ out.1 place.3 feed.0 in
    (rw (c.two_digits.ensures, c.copy_from_slice.ensures.after, rest, append_assoc c.args.text.now (10 ∷ [])), simp length-append (omega arith), omega (arith, out.2, place.4, feed.1))
