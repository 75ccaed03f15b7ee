-- The text stands behind the line, and the zeros behind the text are those that were there.
use Rattle.std.proofs.Common.{rules, ◌∙◌, ap, length, List, ◌++◌, ℕ}
use Rattle.output.proofs.Padding.{seen, zeros}
use Rattle.output.proofs.Line.text.Goals as goal

pub invariant_of-self : goal.invariant_of-self
invariant_of-self c =
    let s = c.self in
    let n = s.inside.len in
    let k = length c.args.s.now in
    (search rules, (search rules, zeros n k s.inside.bytes c.copy_from_slice.new.self s.invariant (search rules) (search rules)))

pub returns : goal.returns
returns c =
    let s = c.self in
    let n = s.inside.len in
    let k = length c.args.s.now in
    let e = seen n k s.inside.bytes c.copy_from_slice.new.self s.invariant (search rules) (search rules) in
    record {
      len = search rules;
      text = e ∙ ap (λ (x : List ℕ). x ++ c.copy_from_slice.new.self) s.view_is ∙ ap (λ (x : List ℕ). c.args.self ++ x) c.copy_from_slice.ensures.after;
    }
