-- What the readers, the writers and the laws rest on.
mod Fields
mod Asked
mod Lengths
mod Ordered
mod Told
mod History
mod AnswersFit
