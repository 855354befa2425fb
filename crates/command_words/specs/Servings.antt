-- What the options of `serve` ask for, with the peers that they name.
use Rattle.std.specs.Prelude.{List, codes, filter_map}
use Rattle.command_words.specs.declared.forms.Asked.{Asked}
use Rattle.command_words.specs.Settings.{Setting}
use Rattle.command_words.specs.Forms.{Serving, of}

abbrev pub serving_by : List Setting → Asked → Serving
serving_by found a = record {
  place = a.place;
  listen = a.listen.now;
  links = a.links;
  peers = filter_map (λ v. v) (of found (codes "--peer"));
  rounds = a.rounds;
  tidy = a.tidy;
}
