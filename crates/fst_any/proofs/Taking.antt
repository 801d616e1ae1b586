-- Machines taken one after the other.
use Rattle.std.proofs.Common.{◌≡◌, ◌∙◌, List, [], ◌∷◌, ◌++◌, map, Result, Ok, Err, refl, sym, ap, append_assoc}
use Rattle.std.proofs.lemmas.List.{append-nil, map-append}
use Rattle.fst_fields.specs.Reading.{◌>>=◌}
use Rattle.fst_semiring.specs.declared.arc_type.ArcType.{ArcType}
use Rattle.fst_semiring.specs.Cost.{Cost}
use Rattle.fst_machine.specs.Machine.{Machine, valued}
use Rattle.fst_any.specs.Taken.{before, machine_as, machines_as}
use Rattle.fst_any.specs.Typed.{Typed, typed}
use Rattle.fst_any.specs.declared.any.AnyFst.{AnyFst}

-- nothing stands before
pub before_none : (taken : Result (List (Machine Cost)) ArcType) → before [] taken ≡ taken
before_none (Ok ms) = refl
before_none (Err kind) = refl

-- one machine more stands before
further : (kind : ArcType) (front : List (Machine Cost)) (t : Typed) (ts : List Typed) (m : Machine Cost) → machine_as kind t ≡ Ok m
    → before front (machines_as kind (t ∷ ts)) ≡ before (front ++ m ∷ []) (machines_as kind ts)
further kind front t ts m is = ap (λ r. before front (r >>= λ n. machines_as kind ts >>= λ ms. Ok (n ∷ ms))) is ∙ go (machines_as kind ts) where
  go : (rest : Result (List (Machine Cost)) ArcType) → before front (rest >>= λ ms. Ok (m ∷ ms)) ≡ before (front ++ m ∷ []) rest
  go (Ok ms) = ap Ok (sym (append_assoc front (m ∷ []) ms))
  go (Err other) = refl

pub taken_more : {W : Type 0} (value : W → Cost) (kind : ArcType) (old new : List (Machine W)) (whole : Result (List (Machine Cost)) ArcType) (rest left : List AnyFst) (any : AnyFst) (m : Machine W)
    → rest ≡ any ∷ left → new ≡ old ++ m ∷ [] → Ok (valued value m) ≡ machine_as kind (typed any)
    → before (map (valued value) old) (machines_as kind (map typed rest)) ≡ whole
    → before (map (valued value) new) (machines_as kind (map typed left)) ≡ whole
taken_more value kind old new whole rest left any m is put machine before_is =
    ap (λ ms. before (map (valued value) ms) (machines_as kind (map typed left))) put
    ∙ ap (λ ms. before ms (machines_as kind (map typed left))) (map-append (valued value) old (m ∷ []))
    ∙ sym (further kind (map (valued value) old) (typed any) (map typed left) (valued value m) (sym machine))
    ∙ ap (λ r. before (map (valued value) old) (machines_as kind (map typed r))) (sym is)
    ∙ before_is

-- the first machine of another arc type
pub taken_other : (kind other : ArcType) (front : List (Machine Cost)) (whole : Result (List (Machine Cost)) ArcType) (rest left : List AnyFst) (any : AnyFst)
    → rest ≡ any ∷ left → Err other ≡ machine_as kind (typed any) → before front (machines_as kind (map typed rest)) ≡ whole → whole ≡ Err other
taken_other kind other front whole rest left any is machine before_is =
    sym before_is ∙ ap (λ r. before front (machines_as kind (map typed r))) is
    ∙ ap (λ r. before front (r >>= λ n. machines_as kind (map typed left) >>= λ ms. Ok (n ∷ ms))) (sym machine)

-- all machines are taken
pub taken_all : (kind : ArcType) (front : List (Machine Cost)) (whole : Result (List (Machine Cost)) ArcType) (rest : List AnyFst)
    → rest ≡ [] → before front (machines_as kind (map typed rest)) ≡ whole → whole ≡ Ok front
taken_all kind front whole rest is before_is = sym before_is ∙ ap (λ r. before front (machines_as kind (map typed r))) is ∙ ap Ok (append-nil front)
