use Rattle.log_groups.specs.Fields.{front_of}
use Rattle.log_groups.proofs.readers.fields_of.Goals as goal

pub returns : goal.returns
unfolding front_of
returns c = λ i. record {
  sites = c.from_be_bytes.ensures i;
  own = c.from_be_bytes-2.ensures i;
  max_kept = c.from_be_bytes-3.ensures i;
  max_path = c.from_be_bytes-4.ensures i;
  max_sessions = c.from_be_bytes-5.ensures i;
  life = c.copy_from_slice.ensures.after i;
}
