mod Alters
