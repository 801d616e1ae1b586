-- `info`: what there is to tell of a machine. (OpenFst manual, "Info".)
use Rattle.fst_trim.specs.Counted.{IsInfo}
use Rattle.fst_trim.specs.declared.summary.Info.{Info as Summary}
use Rattle.std.specs.Prelude.{◌≡◌}
use Rattle.fst_verbs.specs.Descriptions.{info_text}
use Rattle.fst_verbs.specs.Meaning.{Meaning, for_one, never, text}

abbrev pub info_meaning : Meaning
info_meaning = record {
  stops = λ given. never;
  makes = λ given made. for_one given.machines (λ m. (summary : Summary) × IsInfo given.kind (λ w. w) m summary × (made ≡ text (info_text summary)));
}
