use Rattle.fst_rational.proofs.GoingOn.{next_done, next_few, next_places, next_room}
use Rattle.fst_rational.proofs.carry.carry_next.Goals as goal

pub put_next-requires-clause-room : goal.put_next-requires-clause-room
put_next-requires-clause-room g c = next_room g.W.Weight.value c.args.how.shift c.args.how.keeps c.args.how.target c.final_weight-last.result c.clear.ensures.items c.in_ok-put_onward.ensures c.deref.ensures.value c.args.states.now.left c.final_weight-last.ensures c.requires.room

pub put_next-requires-clause-places : goal.put_next-requires-clause-places
put_next-requires-clause-places g c = next_places g.W.Weight.value c.args.how.shift c.args.how.keeps c.args.how.target c.args.states.now.left c.requires.small c.requires.good

pub returns-clause-done : goal.returns-clause-done
returns-clause-done g c = next_done g.W.Weight.value c.args.how.shift c.args.how.keeps c.args.how.target c.final_weight-last.result c.clear.ensures.items c.in_ok-put_onward.ensures c.deref.ensures.value c.args.states.now.left c.args.states.now.done c.put_next.new.self.done c.final_weight-last.ensures c.last.ensures c.put_next.ensures.done

pub returns-clause-room : goal.returns-clause-room
returns-clause-room g c = next_few g.W.Weight.value c.args.how.shift c.args.how.keeps c.args.how.target c.final_weight-last.result c.clear.ensures.items c.in_ok-put_onward.ensures c.deref.ensures.value c.args.states.now.left c.final_weight-last.ensures c.requires.room c.put_next.ensures.room
