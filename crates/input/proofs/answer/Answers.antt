use Rattle.std.proofs.Common.{rules, refl, ap, subst, ◌∙◌, ◌≡◌, ℕ, inl, inr, length, take}
use Rattle.std.proofs.lemmas.List.{take_min}
use Rattle.input.specs.Answering.{Reads}
use Rattle.input.proofs.answer.Goals as goal

pub returns-in_default : goal.returns-in_default
returns-in_default g c = (_, inr (c.in_default.ensures.0, c.in_default.ensures.1, refl, refl), c.write_all.ensures.bytes)

pub returns : goal.returns
returns g c =
    let file = take c.in-Some.n c.read_file.new.buffer in
    let left = c.by-length.new.arg3 in
    let as_read : ℕ → Type 0 = λ most. Reads most (g.R.Read.remaining c.args.input.now) (g.R.Read.remaining c.read_file.new.input) file in
    let long : length c.read_file.new.buffer ≡ 65536 = search rules in (
      take c.min.result left,
      inl (
        file,
        subst as_read long c.in-Some.ensures.1,
        record { shown = _; shows = refl; lent = _; lends = refl; count = _; left = _; met = c.by-length.ensures; leaves = refl; reads = ap (λ n. take n left) c.min.ensures ∙ take_min c.by-length.result left },
      ),
      c.write_all-2.ensures.bytes,
    )
