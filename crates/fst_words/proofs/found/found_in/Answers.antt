use Rattle.std.proofs.Common.{◌≡◌, ◌∙◌, inl, inr, sym, true≢false}
use Rattle.clap.specs.declared.error.kind.ErrorKind.TheVariants as kind
use Rattle.fst_words.proofs.Parsing.{found_none, found_rows, free_at, simple_at}
use Rattle.fst_words.proofs.found.found_in.Goals as goal

pub returns-in-Ok : goal.returns-in-Ok
returns-in-Ok c =
    let is = c.in_ok-command.ensures in
    found_rows c.args.verb _ _ _ is (c.in-Ok.ensures.kinds (free_at c.args.verb _ is)) (c.in-Ok.ensures.matches (simple_at c.args.verb _ is)).0

pub returns : goal.returns
returns c =
    let is = c.in_ok-command.ensures in
    elim (c.in-Err.ensures.kinds (free_at c.args.verb _ is)) [
      | inl memory ↦
          let kind_is : c.kind.result ≡ kind.OutOfMemory = c.kind.ensures ∙ memory in
          let same = rw kind_is at c.eq.ensures in
          absurd (true≢false (sym same ∙ c.if-eq.false))
      | inr among ↦ found_none c.args.verb _ _ _ is among
    ]
