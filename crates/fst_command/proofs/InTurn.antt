-- What is given by inputs, one after the other.
use Rattle.std.proofs.Common.{◌≡◌, ℕ, ◌<◌, ◌≤◌, Bool, true, false, cond, List, [], ◌∷◌, ◌++◌, length, Option, Some, None, Result, Ok, Err, refl, ap, ◌∙◌, arith, nat_lt}
use Rattle.std.proofs.lemmas.Bool.Decides.{nat_tests}
use Rattle.fst_desk.specs.Seen.{Files}
use Rattle.fst_desk.specs.Desk.{content_of}
use Rattle.fst_fields.specs.Reading.{◌>>=◌}
use Rattle.fst_words.specs.declared.options.Options.{Options}
use Rattle.fst_words.specs.declared.plan.Plan.{Plan}
use Rattle.fst_words.specs.Inputs.{Input, plan_inputs}
use Rattle.fst_verbs.specs.Causes.{Cause, Fault, faulty, too_long}
use Rattle.fst_verbs.specs.Given.{Given, Held, given_at, given_by, given_of, kind_of, nothing, put, read_limit, telling}
use Rattle.fst_command.specs.Outcome.{Agrees}

pub Agrees-append : (told : Option Files) (front after : List Input) (cs ds : List (List ℕ)) → Agrees told front cs → Agrees told after ds → Agrees told (front ++ after) (cs ++ ds)
Agrees-append told [] after [] ds h k = k
Agrees-append told [] after (c ∷ cs) ds h k = absurd h
Agrees-append told (i ∷ front) after [] ds h k = absurd h
Agrees-append told (i ∷ front) after (c ∷ cs) ds h k = (h.0, Agrees-append told front after cs ds h.1 k)

-- contents of inputs: those that are told, where contents are told
pub contents_of : (told : Option Files) (is : List Input) → (cs : List (List ℕ)) × Agrees told is cs
contents_of told [] = ([], tt)
contents_of None (i ∷ is) = let rest = contents_of None is in ([] ∷ rest.0, (tt, rest.1))
contents_of (Some files) (i ∷ is) = let rest = contents_of (Some files) is in (content_of files i.name ∷ rest.0, (refl, rest.1))

-- what is given by inputs in front, and then by those after them
pub given_then : (told : Option Files) (o : Options) (front after : List Input) (contents rest : List (List ℕ)) (before held : Held) → Agrees told front contents
    → given_by o front contents before ≡ Ok held → given_by o (front ++ after) (contents ++ rest) before ≡ given_by o after rest held
given_then told o [] after [] rest before held agrees e = let same : before ≡ held = cc in ap (λ h. given_by o after rest h) same
given_then told o [] after (c ∷ contents) rest before held agrees e = absurd agrees
given_then told o (i ∷ front) after [] rest before held agrees e = absurd agrees
given_then told o (i ∷ front) after (c ∷ contents) rest before held agrees e =
    go (nat_lt read_limit (length c)) (telling faulty (put o i.role i.name c before)) (λ more is. given_then told o front after contents rest more held agrees.1 is) e where
      go : (long : Bool) (read : Result Held Cause) → ((more : Held) → given_by o front contents more ≡ Ok held → given_by o (front ++ after) (contents ++ rest) more ≡ given_by o after rest held)
          → cond long (Err (too_long i.name)) (read >>= λ more. given_by o front contents more) ≡ Ok held
          → cond long (Err (too_long i.name)) (read >>= λ more. given_by o (front ++ after) (contents ++ rest) more) ≡ given_by o after rest held
      go true read rec is = absurd cc
      go false (Err cause) rec is = absurd cc
      go false (Ok more) rec is = rec more is

-- a content that is not too long
short : (content : List ℕ) → length content ≤ read_limit → nat_lt read_limit (length content) ≡ false
short content few = grind (arith, nat_tests, few)

long : (content : List ℕ) → read_limit < length content → nat_lt read_limit (length content) ≡ true
long content more = grind (arith, nat_tests, more)

-- one input more is read
pub given_more : (told : Option Files) (o : Options) (front : List Input) (contents : List (List ℕ)) (i : Input) (content : List ℕ) (held more : Held) → Agrees told front contents
    → given_by o front contents nothing ≡ Ok held → length content ≤ read_limit → put o i.role i.name content held ≡ Ok more
    → given_by o (front ++ i ∷ []) (contents ++ content ∷ []) nothing ≡ Ok more
given_more told o front contents i content held more agrees e few is =
    given_then told o front (i ∷ []) contents (content ∷ []) nothing held agrees e
    ∙ ap (λ b. cond b (Err (too_long i.name)) (telling faulty (put o i.role i.name content held) >>= λ h. given_by o [] [] h)) (short content few)
    ∙ ap (λ read. telling faulty read >>= λ h. given_by o [] [] h) is

-- it has a fault
pub given_fault : (told : Option Files) (o : Options) (front after : List Input) (contents rest : List (List ℕ)) (i : Input) (content : List ℕ) (held : Held) (fault : Fault) → Agrees told front contents
    → given_by o front contents nothing ≡ Ok held → length content ≤ read_limit → put o i.role i.name content held ≡ Err fault
    → given_by o (front ++ i ∷ after) (contents ++ content ∷ rest) nothing ≡ Err (faulty fault)
given_fault told o front after contents rest i content held fault agrees e few is =
    given_then told o front (i ∷ after) contents (content ∷ rest) nothing held agrees e
    ∙ ap (λ b. cond b (Err (too_long i.name)) (telling faulty (put o i.role i.name content held) >>= λ h. given_by o after rest h)) (short content few)
    ∙ ap (λ read. telling faulty read >>= λ h. given_by o after rest h) is

-- it is too long
pub given_long : (told : Option Files) (o : Options) (front after : List Input) (contents rest : List (List ℕ)) (i : Input) (content : List ℕ) (held : Held) → Agrees told front contents
    → given_by o front contents nothing ≡ Ok held → read_limit < length content
    → given_by o (front ++ i ∷ after) (contents ++ content ∷ rest) nothing ≡ Err (too_long i.name)
given_long told o front after contents rest i content held agrees e more =
    given_then told o front (i ∷ after) contents (content ∷ rest) nothing held agrees e
    ∙ ap (λ b. cond b (Err (too_long i.name)) (telling faulty (put o i.role i.name content held) >>= λ h. given_by o after rest h)) (long content more)

-- what a command is given, where all inputs are read
pub given_all : (plan : Plan) (contents : List (List ℕ)) (held : Held) (given : Given) → given_by plan.options (plan_inputs plan) contents nothing ≡ Ok held
    → given_at (kind_of plan.options held.machines) held ≡ Ok given → given_of plan contents ≡ Ok given
given_all plan contents held given e is =
    ap (λ r. r >>= λ h. telling faulty (given_at (kind_of plan.options h.machines) h)) e ∙ ap (telling faulty) is

pub given_apart : (plan : Plan) (contents : List (List ℕ)) (held : Held) (fault : Fault) → given_by plan.options (plan_inputs plan) contents nothing ≡ Ok held
    → given_at (kind_of plan.options held.machines) held ≡ Err fault → given_of plan contents ≡ Err (faulty fault)
given_apart plan contents held fault e is =
    ap (λ r. r >>= λ h. telling faulty (given_at (kind_of plan.options h.machines) h)) e ∙ ap (telling faulty) is

-- an input is the cause
pub given_cause : (plan : Plan) (contents : List (List ℕ)) (cause : Cause) → given_by plan.options (plan_inputs plan) contents nothing ≡ Err cause → given_of plan contents ≡ Err cause
given_cause plan contents cause e = ap (λ r. r >>= λ h. telling faulty (given_at (kind_of plan.options h.machines) h)) e
