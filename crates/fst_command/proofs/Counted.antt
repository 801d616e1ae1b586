-- How many machines are read, and how many outputs are made.
use Rattle.std.proofs.Common.{◌≡◌, ℕ, suc, ◌+◌, ◌≤◌, Bool, true, false, cond, List, [], ◌∷◌, length, Option, Some, None, Result, Ok, Err, refl, sym, ap, ◌∙◌, subst, arith, nat_lt, is_some}
use Rattle.std.proofs.lemmas.Bool.{ltb-false}
use Rattle.std.specs.Option.{option_map}
use Rattle.std.proofs.lemmas.List.{length-append}
use Rattle.fst_desk.specs.Seen.{Files}
use Rattle.fst_fields.specs.Reading.{◌>>=◌}
use Rattle.fst_semiring.specs.declared.arc_type.ArcType.{ArcType}
use Rattle.fst_semiring.specs.Cost.{Cost}
use Rattle.fst_machine.specs.Machine.{Machine}
use Rattle.fst_codex.specs.Table.{Table}
use Rattle.fst_any.specs.Taken.{codex_as, machine_as, machines_as}
use Rattle.fst_any.specs.Typed.{Typed, TypedCodex}
use Rattle.fst_words.specs.declared.form.Role.{Role}
use Rattle.fst_words.specs.declared.form.Role.TheVariants as roles
use Rattle.fst_words.specs.declared.options.Options.{Options}
use Rattle.fst_words.specs.declared.plan.Plan.{Plan}
use Rattle.fst_words.specs.Inputs.{Input, any_codex, count_machines, has_codex, is_codex, is_machine, machine_count, plan_inputs}
use Rattle.fst_words.specs.PlanLaws.{IsWhole}
use Rattle.fst_words.proofs.Counts.{codex_there, machines_all}
use Rattle.fst_verbs.specs.Causes.{Cause, Fault, faulty, kinds_differ, too_long}
use Rattle.fst_verbs.specs.Given.{Given, Held, arc_type_of, choices_by, codex_at, codex_in, given_at, given_by, machine_in, nothing, pairs_in, put, read_limit, table_in, telling, text_in}
use Rattle.fst_command.specs.Outcome.{Agrees}

-- what a step after another gives
then_ok : {A B E : Type 0} (r : Result A E) (f : A → B) (y : B) → (r >>= λ x. Ok (f x)) ≡ Ok y → (x : A) × (f x ≡ y)
then_ok (Ok x) f y e = (x, cc)
then_ok (Err fault) f y e = absurd cc

-- one input more
put_machines : (o : Options) (role : Role) (name content : List ℕ) (before after : Held) → put o role name content before ≡ Ok after
    → length after.machines ≡ cond (is_machine role) (suc (length before.machines)) (length before.machines)
unfolding put
put_machines o roles.InputSymbols name content before after e = let got = then_ok (table_in name content) _ after e in ap (λ (h : Held). length h.machines) (sym got.1)
put_machines o roles.OutputSymbols name content before after e = let got = then_ok (table_in name content) _ after e in ap (λ (h : Held). length h.machines) (sym got.1)
put_machines o roles.BothSymbols name content before after e = let got = then_ok (table_in name content) _ after e in ap (λ (h : Held). length h.machines) (sym got.1)
put_machines o roles.InputPairs name content before after e = let got = then_ok (pairs_in name content) _ after e in ap (λ (h : Held). length h.machines) (sym got.1)
put_machines o roles.OutputPairs name content before after e = let got = then_ok (pairs_in name content) _ after e in ap (λ (h : Held). length h.machines) (sym got.1)
put_machines o roles.Text name content before after e =
    let got = then_ok (text_in (arc_type_of o) (choices_by o before.tables.isymbols before.tables.osymbols) name content) _ after e in
    ap (λ (h : Held). length h.machines) (sym got.1) ∙ omega (arith, length-append before.machines (got.0 ∷ []))
put_machines o roles.Machine name content before after e =
    let got = then_ok (machine_in name content) _ after e in
    ap (λ (h : Held). length h.machines) (sym got.1) ∙ omega (arith, length-append before.machines (got.0.typed ∷ []))
put_machines o roles.Codex name content before after e = let got = then_ok (codex_in name content) _ after e in ap (λ (h : Held). length h.machines) (sym got.1)
put_machines o roles.Lines name content before after e = let same : record before { lines = content } ≡ after = cc in ap (λ (h : Held). length h.machines) (sym same)

-- a codex stays, and comes with its input
put_codex : (o : Options) (role : Role) (name content : List ℕ) (before after : Held) → put o role name content before ≡ Ok after → is_some after.codex ≡ cond (is_codex role) true (is_some before.codex)
unfolding put
put_codex o roles.InputSymbols name content before after e = let got = then_ok (table_in name content) _ after e in ap (λ (h : Held). is_some h.codex) (sym got.1)
put_codex o roles.OutputSymbols name content before after e = let got = then_ok (table_in name content) _ after e in ap (λ (h : Held). is_some h.codex) (sym got.1)
put_codex o roles.BothSymbols name content before after e = let got = then_ok (table_in name content) _ after e in ap (λ (h : Held). is_some h.codex) (sym got.1)
put_codex o roles.InputPairs name content before after e = let got = then_ok (pairs_in name content) _ after e in ap (λ (h : Held). is_some h.codex) (sym got.1)
put_codex o roles.OutputPairs name content before after e = let got = then_ok (pairs_in name content) _ after e in ap (λ (h : Held). is_some h.codex) (sym got.1)
put_codex o roles.Text name content before after e =
    let got = then_ok (text_in (arc_type_of o) (choices_by o before.tables.isymbols before.tables.osymbols) name content) _ after e in ap (λ (h : Held). is_some h.codex) (sym got.1)
put_codex o roles.Machine name content before after e = let got = then_ok (machine_in name content) _ after e in ap (λ (h : Held). is_some h.codex) (sym got.1)
put_codex o roles.Codex name content before after e = let got = then_ok (codex_in name content) _ after e in ap (λ (h : Held). is_some h.codex) (sym got.1)
put_codex o roles.Lines name content before after e = let same : record before { lines = content } ≡ after = cc in ap (λ (h : Held). is_some h.codex) (sym same)

-- the lines are no longer than what is read of an input
put_lines : (o : Options) (role : Role) (name content : List ℕ) (before after : Held) → put o role name content before ≡ Ok after
    → length content ≤ read_limit → length before.lines ≤ read_limit → length after.lines ≤ read_limit
unfolding put
put_lines o roles.InputSymbols name content before after e short few =
    let got = then_ok (table_in name content) _ after e in subst (λ (h : Held). length h.lines ≤ read_limit) got.1 few
put_lines o roles.OutputSymbols name content before after e short few =
    let got = then_ok (table_in name content) _ after e in subst (λ (h : Held). length h.lines ≤ read_limit) got.1 few
put_lines o roles.BothSymbols name content before after e short few =
    let got = then_ok (table_in name content) _ after e in subst (λ (h : Held). length h.lines ≤ read_limit) got.1 few
put_lines o roles.InputPairs name content before after e short few =
    let got = then_ok (pairs_in name content) _ after e in subst (λ (h : Held). length h.lines ≤ read_limit) got.1 few
put_lines o roles.OutputPairs name content before after e short few =
    let got = then_ok (pairs_in name content) _ after e in subst (λ (h : Held). length h.lines ≤ read_limit) got.1 few
put_lines o roles.Text name content before after e short few =
    let got = then_ok (text_in (arc_type_of o) (choices_by o before.tables.isymbols before.tables.osymbols) name content) _ after e in
    subst (λ (h : Held). length h.lines ≤ read_limit) got.1 few
put_lines o roles.Machine name content before after e short few =
    let got = then_ok (machine_in name content) _ after e in subst (λ (h : Held). length h.lines ≤ read_limit) got.1 few
put_lines o roles.Codex name content before after e short few =
    let got = then_ok (codex_in name content) _ after e in subst (λ (h : Held). length h.lines ≤ read_limit) got.1 few
put_lines o roles.Lines name content before after e short few =
    let same : record before { lines = content } ≡ after = cc in subst (λ (h : Held). length h.lines ≤ read_limit) same short

-- the first of several steps
first_step : (long : Bool) (cause : Cause) (read : Result Held Fault) (rest : Held → Result Held Cause) (held : Held) → cond long (Err cause) (telling faulty read >>= rest) ≡ Ok held → (more : Held) × (read ≡ Ok more) × (rest more ≡ Ok held)
first_step true cause read rest held e = absurd cc
first_step false cause (Ok more) rest held e = (more, refl, e)
first_step false cause (Err fault) rest held e = absurd cc

-- an input that was read was not too long
short_step : (long : Bool) (cause : Cause) (read : Result Held Cause) (held : Held) → cond long (Err cause) read ≡ Ok held → long ≡ false
short_step true cause read held e = absurd cc
short_step false cause read held e = refl

-- all inputs
held_machines : (told : Option Files) (o : Options) (is : List Input) (cs : List (List ℕ)) (before held : Held) → Agrees told is cs → given_by o is cs before ≡ Ok held
    → length held.machines ≡ length before.machines + count_machines is
held_machines told o [] [] before held agrees e = let same : before ≡ held = cc in ap (λ (h : Held). length h.machines) (sym same) ∙ omega arith
held_machines told o [] (c ∷ cs) before held agrees e = absurd agrees
held_machines told o (i ∷ is) [] before held agrees e = absurd agrees
held_machines told o (i ∷ is) (c ∷ cs) before held agrees e =
    let step = first_step (nat_lt read_limit (length c)) (too_long i.name) (put o i.role i.name c before) (λ more. given_by o is cs more) held e in
    go (is_machine i.role) (put_machines o i.role i.name c before step.0 step.1) (held_machines told o is cs step.0 held agrees.1 step.2) where
      go : (b : Bool) {more : ℕ} → more ≡ cond b (suc (length before.machines)) (length before.machines) → length held.machines ≡ more + count_machines is
          → length held.machines ≡ length before.machines + cond b (suc (count_machines is)) (count_machines is)
      go true one rest = omega (arith, one, rest)
      go false one rest = omega (arith, one, rest)

held_codex : (told : Option Files) (o : Options) (is : List Input) (cs : List (List ℕ)) (before held : Held) → Agrees told is cs → given_by o is cs before ≡ Ok held
    → cond (is_some before.codex) true (any_codex is) ≡ true → is_some held.codex ≡ true
held_codex told o [] [] before held agrees e any =
    let same : before ≡ held = cc in ap (λ (h : Held). is_some h.codex) (sym same) ∙ go (is_some before.codex) any where
      go : (b : Bool) → cond b true false ≡ true → b ≡ true
      go true e = refl
      go false e = e
held_codex told o [] (c ∷ cs) before held agrees e any = absurd agrees
held_codex told o (i ∷ is) [] before held agrees e any = absurd agrees
held_codex told o (i ∷ is) (c ∷ cs) before held agrees e any =
    let step = first_step (nat_lt read_limit (length c)) (too_long i.name) (put o i.role i.name c before) (λ more. given_by o is cs more) held e in
    held_codex told o is cs step.0 held agrees.1 step.2 (go (is_codex i.role) (is_some before.codex) (any_codex is) (put_codex o i.role i.name c before step.0 step.1) any) where
      go : (b was rest : Bool) {now : Bool} → now ≡ cond b true was → cond was true (cond b true rest) ≡ true → cond now true rest ≡ true
      go true was rest e any = rw e refl
      go false true rest e any = rw e refl
      go false false rest e any = rw e any

held_lines : (o : Options) (is : List Input) (cs : List (List ℕ)) (before held : Held) → given_by o is cs before ≡ Ok held → length before.lines ≤ read_limit → length held.lines ≤ read_limit
held_lines o [] cs before held e few = let same : before ≡ held = cc in subst (λ (h : Held). length h.lines ≤ read_limit) same few
held_lines o (i ∷ is) [] before held e few = let same : before ≡ held = cc in subst (λ (h : Held). length h.lines ≤ read_limit) same few
held_lines o (i ∷ is) (c ∷ cs) before held e few =
    let short : length c ≤ read_limit = ltb-false read_limit (length c) (short_step (nat_lt read_limit (length c)) (too_long i.name) (telling faulty (put o i.role i.name c before) >>= λ more. given_by o is cs more) held e) in
    let step = first_step (nat_lt read_limit (length c)) (too_long i.name) (put o i.role i.name c before) (λ more. given_by o is cs more) held e in
    held_lines o is cs step.0 held step.2 (put_lines o i.role i.name c before step.0 step.1 short few)

pub read_lines : (plan : Plan) (cs : List (List ℕ)) (held : Held) → given_by plan.options (plan_inputs plan) cs nothing ≡ Ok held → length held.lines ≤ read_limit
read_lines plan cs held e = held_lines plan.options (plan_inputs plan) cs nothing held e (omega arith)

pub read_machines : (plan : Plan) (told : Option Files) (cs : List (List ℕ)) (held : Held) → IsWhole plan → Agrees told (plan_inputs plan) cs → given_by plan.options (plan_inputs plan) cs nothing ≡ Ok held → length held.machines ≡ machine_count plan
read_machines plan told cs held whole agrees e = held_machines told plan.options (plan_inputs plan) cs nothing held agrees e ∙ omega (arith, machines_all plan whole)

pub read_codex : (plan : Plan) (told : Option Files) (cs : List (List ℕ)) (held : Held) → IsWhole plan → Agrees told (plan_inputs plan) cs → given_by plan.options (plan_inputs plan) cs nothing ≡ Ok held → has_codex plan ≡ true → is_some held.codex ≡ true
read_codex plan told cs held whole agrees e has = held_codex told plan.options (plan_inputs plan) cs nothing held agrees e (codex_there plan whole has)

-- of one arc type there are as many
taken_length : (kind : ArcType) (ts : List Typed) (ms : List (Machine Cost)) → machines_as kind ts ≡ Ok ms → length ms ≡ length ts
taken_length kind [] ms e = let same : [] ≡ ms = cc in ap length (sym same)
taken_length kind (t ∷ ts) ms e = go (machine_as kind t) (machines_as kind ts) (λ ns is. taken_length kind ts ns is) e where
  go : (r : Result (Machine Cost) ArcType) (rest : Result (List (Machine Cost)) ArcType) → ((ns : List (Machine Cost)) → rest ≡ Ok ns → length ns ≡ length ts)
      → (r >>= λ m. rest >>= λ ns. Ok (m ∷ ns)) ≡ Ok ms → length ms ≡ suc (length ts)
  go (Err k) rest count is = absurd cc
  go (Ok m) (Err k) count is = absurd cc
  go (Ok m) (Ok ns) count is = let same : m ∷ ns ≡ ms = cc in ap length (sym same) ∙ ap suc (count ns refl)

told_ok : {A E F : Type 0} (tell : E → F) (r : Result A E) (x : A) → telling tell r ≡ Ok x → r ≡ Ok x
told_ok tell (Ok y) x e = let same : y ≡ x = cc in ap Ok same
told_ok tell (Err fault) x e = absurd cc

record Parts (kind : ArcType) (held : Held) (given : Given) : Type 0 where
  machines : machines_as kind held.machines ≡ Ok given.machines
  codex : codex_at kind held.codex ≡ Ok given.codex
  lines : given.lines ≡ held.lines

parts : (kind : ArcType) (held : Held) (given : Given) → given_at kind held ≡ Ok given → Parts kind held given
unfolding given_at
parts kind held given e = go (machines_as kind held.machines) (codex_at kind held.codex) refl refl e where
  go : (ms : Result (List (Machine Cost)) ArcType) (c : Result (Option (Table Cost)) ArcType) → machines_as kind held.machines ≡ ms → codex_at kind held.codex ≡ c
      → (telling (kinds_differ kind) ms >>= λ machines. telling (kinds_differ kind) c >>= λ codex.
      Ok (record { kind = kind; tables = held.tables; ipairs = held.ipairs; opairs = held.opairs; lines = held.lines; machines = machines; codex = codex })) ≡ Ok given
      → Parts kind held given
  go (Err k) c mi ci is = absurd cc
  go (Ok ms) (Err k) mi ci is = absurd cc
  go (Ok ms) (Ok c) mi ci is =
      let same : record { kind = kind; tables = held.tables; ipairs = held.ipairs; opairs = held.opairs; lines = held.lines; machines = ms; codex = c } ≡ given = cc in
      record { machines = mi ∙ ap (λ (g : Given). Ok g.machines) same; codex = ci ∙ ap (λ (g : Given). Ok g.codex) same; lines = ap (λ (g : Given). g.lines) (sym same) }

pub given_machines : (kind : ArcType) (held : Held) (given : Given) → given_at kind held ≡ Ok given → length given.machines ≡ length held.machines
given_machines kind held given e = taken_length kind held.machines given.machines (parts kind held given e).machines

pub given_codex : (kind : ArcType) (held : Held) (given : Given) → given_at kind held ≡ Ok given → is_some held.codex ≡ true → is_some given.codex ≡ true
given_codex kind held given e has = go held.codex has (parts kind held given e).codex where
  go : (c : Option TypedCodex) → is_some c ≡ true → codex_at kind c ≡ Ok given.codex → is_some given.codex ≡ true
  go None none is = absurd cc
  go (Some c) some is = let got = then_ok (codex_as kind c) Some given.codex is in ap is_some (sym got.1)

-- the lines are handed on
pub given_lines : (kind : ArcType) (held : Held) (given : Given) → given_at kind held ≡ Ok given → given.lines ≡ held.lines
given_lines kind held given e = (parts kind held given e).lines

-- a value that is seen is there
pub some_seen : {A B : Type 0} (f : A → B) (o : Option A) → is_some (option_map f o) ≡ is_some o
some_seen f None = refl
some_seen f (Some x) = refl
