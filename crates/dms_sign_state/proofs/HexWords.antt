-- That an octet is in no word of octets, for the laws of an agent's state.
pub use Rattle.dms_text_exact.proofs.DigitLaws.{octets_free}
