-- What is read of the lines of replies, and the laws of lines that no program needs.
mod PartReads
mod Printed
mod ReplyReads
mod Rows
