-- How many inputs and outputs of each kind a whole plan has.
use Rattle.std.proofs.Common.{◌≡◌, ◌∙◌, ◌-◌, ◌/◌, ◌≤◌, ◌<◌, ℕ, suc, Bool, true, false, List, [], ◌∷◌, ◌++◌, length, take, drop, cond, Option, Some, None, refl, sym, ap, arith, append_assoc, length-drop}
use Rattle.fst_words.specs.declared.form.Role.{Role}
use Rattle.fst_words.specs.declared.form.Role.TheVariants.{InputSymbols, OutputSymbols, BothSymbols, InputPairs, OutputPairs}
use Rattle.fst_words.specs.declared.form.Shape.{Shape}
use Rattle.fst_words.specs.declared.form.Shape.TheVariants.{NoInput, Text, One, Two, Three, Rules, Codex}
use Rattle.fst_words.specs.declared.options.Options.{Options}
use Rattle.fst_words.specs.declared.plan.Plan.{Plan}
use Rattle.fst_words.specs.Forms.{all_of, form_of, has_rules, least_of, place_of}
use Rattle.fst_words.specs.Inputs.{Input, any_codex, codex_by, count_machines, has_codex, inputs_from, is_codex, is_machine, is_one_file, machine_count, machines_by, option_input, option_inputs, own_inputs, plan_inputs, stored_by, stored_count, table_inputs}
use Rattle.fst_words.specs.PlanLaws.{IsWhole}
use Rattle.fst_words.specs.Plans.{input_files, is_replace, outputs_of, pair_machines, rule_labels}
use Rattle.fst_words.proofs.PlannedFiles.{label_for_each, machine_count as pair_count}

-- the names that are stored
stored : (shape : Shape) (decode : Bool) (names : List (List ℕ)) → least_of shape ≤ length names → length names ≡ all_of shape (length names)
    → length (drop (place_of shape decode (length names)) names) ≡ stored_by shape decode
stored NoInput decode names least all = omega (arith, length-drop 0 names)
stored Text decode names least all = omega (arith, length-drop 1 names)
stored One decode names least all = omega (arith, length-drop 1 names)
stored Two decode names least all = omega (arith, length-drop 2 names)
stored Three decode names least all = omega (arith, length-drop 3 names)
stored Rules decode names least all = omega (arith, length-drop (length names - 1) names)
stored Codex true names least all = omega (arith, length-drop 2 names)
stored Codex false names least all = omega (arith, length-drop 1 names)

pub stored_all : (plan : Plan) → IsWhole plan → length (outputs_of plan) ≡ stored_count plan
unfolding outputs_of
stored_all plan whole = stored (form_of plan.command).shape plan.options.decode plan.names whole.least whole.all

-- the machines and the codex of the names that are fetched
counted_rules : (at : ℕ) (names : List (List ℕ)) → count_machines (inputs_from Rules at names) ≡ length names
counted_rules at [] = refl
counted_rules at (n ∷ names) = ap suc (counted_rules (suc at) names)

counted : (shape : Shape) (decode : Bool) (names : List (List ℕ)) → length names ≡ all_of shape (length names)
    → count_machines (inputs_from shape 0 (cond (has_rules shape) (pair_machines names) (take (place_of shape decode (length names)) names))) ≡ machines_by shape (length names)
counted NoInput decode names all = refl
counted Text decode [] all = absurd cc
counted Text decode (a ∷ names) all = refl
counted One decode [] all = absurd cc
counted One decode (a ∷ names) all = refl
counted Two decode [] all = absurd cc
counted Two decode (a ∷ []) all = absurd cc
counted Two decode (a ∷ b ∷ names) all = refl
counted Three decode [] all = absurd cc
counted Three decode (a ∷ []) all = absurd cc
counted Three decode (a ∷ b ∷ []) all = absurd cc
counted Three decode (a ∷ b ∷ c ∷ names) all = refl
counted Rules decode names all = counted_rules 0 (pair_machines names) ∙ pair_count names
counted Codex true [] all = absurd cc
counted Codex true (a ∷ []) all = absurd cc
counted Codex true (a ∷ b ∷ names) all = refl
counted Codex false [] all = absurd cc
counted Codex false (a ∷ names) all = refl

-- the files of options are no machines
abbrev HasNone : List Input → Type 0
HasNone front = (is : List Input) → count_machines (front ++ is) ≡ count_machines is

none_then : (front after : List Input) → HasNone front → HasNone after → HasNone (front ++ after)
none_then front after first rest is = ap count_machines (append_assoc front after is) ∙ first (after ++ is) ∙ rest is

option_none : (role : Role) (file : Option (List ℕ)) → is_machine role ≡ false → HasNone (option_input role file)
option_none role None none is = refl
option_none role (Some name) none is = rw none refl

tables_none : (one : Bool) (isymbols osymbols : Option (List ℕ)) → HasNone (cond one (option_input BothSymbols isymbols) (option_input InputSymbols isymbols ++ option_input OutputSymbols osymbols))
tables_none true isymbols osymbols = option_none BothSymbols isymbols refl
tables_none false isymbols osymbols =
    none_then (option_input InputSymbols isymbols) (option_input OutputSymbols osymbols) (option_none InputSymbols isymbols refl) (option_none OutputSymbols osymbols refl)

options_none : (o : Options) → HasNone (option_inputs o)
options_none o =
    none_then (table_inputs o.isymbols o.osymbols) (option_input InputPairs o.relabel_ipairs ++ option_input OutputPairs o.relabel_opairs)
    (tables_none (is_one_file o.isymbols o.osymbols) o.isymbols o.osymbols)
    (none_then (option_input InputPairs o.relabel_ipairs) (option_input OutputPairs o.relabel_opairs) (option_none InputPairs o.relabel_ipairs refl) (option_none OutputPairs o.relabel_opairs refl))

pub machines_all : (plan : Plan) → IsWhole plan → count_machines (plan_inputs plan) ≡ machine_count plan
machines_all plan whole = options_none plan.options (own_inputs plan) ∙ counted (form_of plan.command).shape plan.options.decode plan.names whole.all

-- a codex stands among inputs that end with it
any_after : (front is : List Input) → any_codex is ≡ true → any_codex (front ++ is) ≡ true
any_after [] is any = any
any_after (i ∷ front) is any = go (is_codex i.role) (any_after front is any) where
  go : (b : Bool) → any_codex (front ++ is) ≡ true → cond b true (any_codex (front ++ is)) ≡ true
  go true rest = refl
  go false rest = rest

codex_own : (shape : Shape) (decode : Bool) (names : List (List ℕ)) → length names ≡ all_of shape (length names) → codex_by shape decode ≡ true
    → any_codex (inputs_from shape 0 (cond (has_rules shape) (pair_machines names) (take (place_of shape decode (length names)) names))) ≡ true
codex_own NoInput decode names all has = absurd cc
codex_own Text decode names all has = absurd cc
codex_own One decode names all has = absurd cc
codex_own Two decode names all has = absurd cc
codex_own Three decode names all has = absurd cc
codex_own Rules decode names all has = absurd cc
codex_own Codex true [] all has = absurd cc
codex_own Codex true (a ∷ []) all has = absurd cc
codex_own Codex true (a ∷ b ∷ names) all has = refl
codex_own Codex false names all has = absurd cc

pub codex_there : (plan : Plan) → IsWhole plan → has_codex plan ≡ true → any_codex (plan_inputs plan) ≡ true
codex_there plan whole has = any_after (option_inputs plan.options) (own_inputs plan) (codex_own (form_of plan.command).shape plan.options.decode plan.names whole.all has)

-- a plan of rules has a label for each machine
machines_ruled : (shape : Shape) (names : ℕ) → has_rules shape ≡ true → machines_by shape names ≡ names / 2
machines_ruled Rules names is = refl
machines_ruled NoInput names is = absurd cc
machines_ruled Text names is = absurd cc
machines_ruled One names is = absurd cc
machines_ruled Two names is = absurd cc
machines_ruled Three names is = absurd cc
machines_ruled Codex names is = absurd cc

pub labels_all : (plan : Plan) → IsWhole plan → is_replace plan.command ≡ true → length (rule_labels plan) ≡ machine_count plan
labels_all plan whole rules =
    let files : input_files plan ≡ pair_machines plan.names = rw rules refl in
    label_for_each plan whole rules ∙ ap length files ∙ pair_count plan.names ∙ sym (machines_ruled (form_of plan.command).shape (length plan.names) rules)

-- and has one at least
some_ruled : (shape : Shape) (names : ℕ) → has_rules shape ≡ true → least_of shape ≤ names → 0 < machines_by shape names
some_ruled Rules names is least = omega (arith, least)
some_ruled NoInput names is least = absurd cc
some_ruled Text names is least = absurd cc
some_ruled One names is least = absurd cc
some_ruled Two names is least = absurd cc
some_ruled Three names is least = absurd cc
some_ruled Codex names is least = absurd cc

pub rules_some : (plan : Plan) → IsWhole plan → is_replace plan.command ≡ true → 0 < machine_count plan
rules_some plan whole rules = some_ruled (form_of plan.command).shape (length plan.names) rules whole.least
