-- What is read of the code of a request, and what is lent.
mod RequestCodes
mod Lending
