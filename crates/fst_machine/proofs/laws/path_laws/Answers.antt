use Rattle.fst_machine.proofs.Letters.{input-append, output-append, label_word-append, product-append, input-turned, output-turned, product-turned, IsCost-product, Within-product}
use Rattle.fst_machine.proofs.PathParts.{IsPath-append, IsPath-split, walk_of_path, path_of_walk, same_path}
use Rattle.fst_machine.proofs.Futures.{RelFrom_is, RelFrom-epsilon}
use Rattle.fst_machine.proofs.laws.path_laws.Goals as goal

pub returns-clause-letters : goal.returns-clause-letters
returns-clause-letters g c = λ kind. record {
  input_joined = input-append;
  output_joined = output-append;
  word_joined = label_word-append;
  product_joined = product-append kind;
  input_turned = input-turned;
  output_turned = output-turned;
  product_turned = product-turned kind;
  product_kind = IsCost-product kind;
  product_within = Within-product kind;
}

pub returns-clause-paths : goal.returns-clause-paths
returns-clause-paths g c = λ kind graph. record {
  joins = IsPath-append graph;
  splits = IsPath-split graph;
  written = walk_of_path graph;
  read = path_of_walk graph;
  fixed = same_path graph;
  says = RelFrom_is kind graph;
  silent = RelFrom-epsilon kind graph;
}
