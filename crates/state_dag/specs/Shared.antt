-- The stand-in that children share.
pub use Rattle.plain_dag.specs.Collection.{common, shared_stand_in}
