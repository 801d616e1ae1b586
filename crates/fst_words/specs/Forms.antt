-- The commands, a line each: the name, the options with a value, the flags, the shape of the names, and the symbol tables
-- that the machine of the output carries. (OpenFst
-- manual: the operations of the command line are programs whose names begin with `fst`. Here one program carries them
-- all, and its first word names the operation. `batch` and `make` are this project's own.)
use Rattle.std.specs.Prelude.{nat_lt, ℕ, ◌+◌, ◌-◌, ◌*◌, ◌/◌, Bool, true, false, List, [], ◌∷◌, codes, if◌then◌else◌}
use Rattle.fst_words.specs.declared.form.Carries.{Carries}
use Rattle.fst_words.specs.declared.form.Carries.TheVariants.{Nothing, Kept, First, Exchanged, OneSide, Outer}
use Rattle.fst_words.specs.declared.form.Shape.{Shape}
use Rattle.fst_words.specs.declared.form.Shape.TheVariants.{NoInput, Text, One, Two, Three, Rules, Codex}
use Rattle.fst_words.specs.declared.form.Role.{Role}
use Rattle.fst_words.specs.declared.form.Role.TheVariants as roles
use Rattle.fst_words.specs.declared.verb.Verb.{Verb}
use Rattle.fst_words.specs.declared.verb.Verb.TheVariants as verbs

pub record Form : Type 0 where
  pub name : List ℕ
  pub options : List (List ℕ)
  pub flags : List (List ℕ)
  pub shape : Shape
  pub carries : Carries

abbrev pub form_of : Verb → Form
form_of verbs.Compile = record {
  name = codes "compile";
  options = codes "arc_type" ∷ codes "isymbols" ∷ codes "osymbols" ∷ [];
  flags = codes "acceptor" ∷ codes "keep_state_numbering" ∷ codes "keep_isymbols" ∷ codes "keep_osymbols" ∷ [];
  shape = Text;
  carries = Kept;
}
form_of verbs.Print = record {
  name = codes "print";
  options = codes "isymbols" ∷ codes "osymbols" ∷ [];
  flags = codes "acceptor" ∷ codes "show_weight_one" ∷ codes "numeric" ∷ [];
  shape = One;
  carries = Nothing;
}
form_of verbs.Info = record { name = codes "info"; options = []; flags = []; shape = One; carries = Nothing }
form_of verbs.Invert = record { name = codes "invert"; options = []; flags = []; shape = One; carries = Exchanged }
form_of verbs.Reverse = record { name = codes "reverse"; options = []; flags = []; shape = One; carries = First }
form_of verbs.Connect = record { name = codes "connect"; options = []; flags = []; shape = One; carries = First }
form_of verbs.Union = record { name = codes "union"; options = []; flags = []; shape = Two; carries = First }
form_of verbs.Concat = record { name = codes "concat"; options = []; flags = []; shape = Two; carries = First }
form_of verbs.Closure = record { name = codes "closure"; options = []; flags = codes "closure_plus" ∷ []; shape = One; carries = First }
form_of verbs.Project = record { name = codes "project"; options = []; flags = codes "project_output" ∷ []; shape = One; carries = OneSide }
form_of verbs.Replace = record { name = codes "replace"; options = []; flags = []; shape = Rules; carries = Nothing }
form_of verbs.Relabel = record { name = codes "relabel"; options = codes "relabel_ipairs" ∷ codes "relabel_opairs" ∷ []; flags = []; shape = One; carries = Nothing }
form_of verbs.Arcsort = record { name = codes "arcsort"; options = codes "sort_type" ∷ []; flags = []; shape = One; carries = First }
form_of verbs.Compose = record { name = codes "compose"; options = codes "connect" ∷ codes "max_states" ∷ []; flags = []; shape = Two; carries = Outer }
form_of verbs.Rmepsilon = record { name = codes "rmepsilon"; options = codes "connect" ∷ codes "queue_type" ∷ []; flags = []; shape = One; carries = First }
form_of verbs.Shortestdistance = record { name = codes "shortestdistance"; options = codes "queue_type" ∷ []; flags = codes "reverse" ∷ []; shape = One; carries = Nothing }
form_of verbs.Shortestpath = record { name = codes "shortestpath"; options = codes "nshortest" ∷ []; flags = codes "unique" ∷ []; shape = One; carries = First }
form_of verbs.Push = record { name = codes "push"; options = codes "queue_type" ∷ []; flags = codes "push_weights" ∷ codes "remove_total_weight" ∷ []; shape = One; carries = First }
form_of verbs.Encode = record { name = codes "encode"; options = []; flags = codes "encode_labels" ∷ codes "encode_weights" ∷ codes "decode" ∷ []; shape = Codex; carries = Nothing }
form_of verbs.Determinize = record { name = codes "determinize"; options = codes "max_states" ∷ []; flags = []; shape = One; carries = First }
form_of verbs.Minimize = record { name = codes "minimize"; options = codes "queue_type" ∷ []; flags = []; shape = One; carries = First }
form_of verbs.Prune = record { name = codes "prune"; options = codes "weight" ∷ codes "queue_type" ∷ []; flags = []; shape = One; carries = First }
form_of verbs.Intersect = record { name = codes "intersect"; options = codes "connect" ∷ codes "max_states" ∷ []; flags = []; shape = Two; carries = Outer }
form_of verbs.Difference = record { name = codes "difference"; options = codes "connect" ∷ codes "max_states" ∷ []; flags = []; shape = Two; carries = First }
form_of verbs.Equivalent = record { name = codes "equivalent"; options = codes "max_states" ∷ []; flags = []; shape = Two; carries = Nothing }
form_of verbs.Batch = record {
  name = codes "batch";
  options = codes "nshortest" ∷ codes "workers" ∷ codes "max_states" ∷ [];
  flags = codes "summary" ∷ [];
  shape = Three;
  carries = Nothing;
}
form_of verbs.Make = record {
  name = codes "make";
  options = codes "seed" ∷ codes "lines" ∷ codes "nshortest" ∷ codes "workers" ∷ codes "max_states" ∷ [];
  flags = [];
  shape = NoInput;
  carries = Nothing;
}

-- the symbol tables that the machine of the output carries
abbrev pub carries_of : Verb → Carries
carries_of verb = (form_of verb).carries

-- ---- what a shape says of the names

pub record Facts : Type 0 where
  -- how many names must be given: the others may be missing
  pub least : ℕ
  -- how many names there are where n are given, with those that are missing
  pub all : (n : ℕ) → ℕ
  -- the place of the first name that is stored, of n names
  pub place : (decode : Bool) → (n : ℕ) → ℕ
  -- the names are pairs of a machine and a label, and then an output
  pub rules : Bool
  -- what the input in a place is, from 0
  pub role : (place : ℕ) → Role
  -- how many machines are fetched, of n names; whether a codex is; how many files are stored
  pub machines : (n : ℕ) → ℕ
  pub codex : (decode : Bool) → Bool
  pub stored : (decode : Bool) → ℕ
  -- lines run through a cascade, whose states are expanded
  pub expands : Bool

-- an output alone; one machine; two; two and lines; rules, which are pairs of a machine and a label, and an output after
-- them; a machine and a codex, which is stored unless it is decoded by. Each but that of rules has a number of names of its
-- own.
abbrev pub facts_of : Shape → Facts
facts_of NoInput = record {
  least = 0;
  all = λ n. 1;
  place = λ decode n. 0;
  rules = false;
  role = λ place. roles.Machine;
  machines = λ n. 0;
  codex = λ decode. false;
  stored = λ decode. 1;
  expands = true;
}
facts_of Text = record {
  least = 0;
  all = λ n. 2;
  place = λ decode n. 1;
  rules = false;
  role = λ place. roles.Text;
  machines = λ n. 1;
  codex = λ decode. false;
  stored = λ decode. 1;
  expands = false;
}
facts_of One = record {
  least = 0;
  all = λ n. 2;
  place = λ decode n. 1;
  rules = false;
  role = λ place. roles.Machine;
  machines = λ n. 1;
  codex = λ decode. false;
  stored = λ decode. 1;
  expands = false;
}
facts_of Two = record {
  least = 2;
  all = λ n. 3;
  place = λ decode n. 2;
  rules = false;
  role = λ place. roles.Machine;
  machines = λ n. 2;
  codex = λ decode. false;
  stored = λ decode. 1;
  expands = false;
}
facts_of Three = record {
  least = 2;
  all = λ n. 4;
  place = λ decode n. 3;
  rules = false;
  role = λ place. if nat_lt place 2 then roles.Machine else roles.Lines;
  machines = λ n. 2;
  codex = λ decode. false;
  stored = λ decode. 1;
  expands = true;
}
facts_of Rules = record {
  least = 2;
  all = λ n. 2 * (n / 2) + 1;
  place = λ decode n. n - 1;
  rules = true;
  role = λ place. roles.Machine;
  machines = λ n. n / 2;
  codex = λ decode. false;
  stored = λ decode. 1;
  expands = false;
}
facts_of Codex = record {
  least = 2;
  all = λ n. 3;
  place = λ decode n. if decode then 2 else 1;
  rules = false;
  role = λ place. if nat_lt place 1 then roles.Machine else roles.Codex;
  machines = λ n. 1;
  codex = λ decode. decode;
  stored = λ decode. if decode then 1 else 2;
  expands = false;
}

abbrev pub least_of : Shape → ℕ
least_of shape = (facts_of shape).least

abbrev pub all_of : Shape → ℕ → ℕ
all_of shape n = (facts_of shape).all n

abbrev pub place_of : Shape → (decode : Bool) → (n : ℕ) → ℕ
place_of shape decode n = (facts_of shape).place decode n

abbrev pub has_rules : Shape → Bool
has_rules shape = (facts_of shape).rules

abbrev pub role_of : Shape → (place : ℕ) → Role
role_of shape place = (facts_of shape).role place
