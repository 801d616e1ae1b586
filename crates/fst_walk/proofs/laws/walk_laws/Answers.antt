use Rattle.fst_walk.proofs.Fronts.{walking_front, walking_further}
use Rattle.fst_walk.proofs.Numbered.{named_accessible, nothing_numbered}
use Rattle.fst_walk.proofs.Refusing.{reached_few}
use Rattle.fst_walk.proofs.laws.walk_laws.Goals as goal

pub returns-clause-fronts : goal.returns-clause-fronts
returns-clause-fronts g c = λ graph start names found taken. record {
  front = walking_front graph start names found taken;
  further = walking_further graph start names found taken;
}

pub returns-clause-few : goal.returns-clause-few
returns-clause-few g c = λ graph start names xs. reached_few graph start names xs

pub returns-clause-nothing : goal.returns-clause-nothing
returns-clause-nothing g c = λ graph none. nothing_numbered graph none

pub returns-clause-accessible : goal.returns-clause-accessible
returns-clause-accessible g c = λ graph names m. named_accessible graph names m
