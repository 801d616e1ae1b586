use Rattle.fst_minimize.proofs.describing.Describer.finish.Goals as goal

pub returns : goal.returns
returns c = λ g n d. record { keys = c.args.self.keys; sorted = d.0; seen = d.1; described = d.2; tells = c.finish.ensures.tells d.1 d.3; numbering = c.finish.ensures.numbering d.1 d.3 }
